-- How an order of tests is written: one test to a line, with what is answered where it fails.
use Rattle.std.specs.Prelude.{Bool, true, false}

-- go on with the rest where the test holds, else answer `refusal`
unfoldable pub need : {A : Type 0} → Bool → A → A → A
need true refusal rest = rest
need false refusal rest = refusal
