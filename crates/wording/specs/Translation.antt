-- The whole translation (RULES 12.6): what is answered for a text, and what stands in the lent bytes afterwards.
use Rattle.std.specs.Prelude.{ℕ, Bool, ◌&&◌, List, [], length, leb, Result, Ok, Err}
use Rattle.octets.specs.Bytes.{front}
use Rattle.octets.specs.Order.{need}
use Rattle.refusal.specs.declared.Refusal.{Refusal}
use Rattle.refusal.specs.declared.Refusal.TheVariants.{Text, Large, Room}
use Rattle.wording.specs.declared.Stored.{Stored}
use Rattle.wording.specs.declared.TextFault.{TextFault}
use Rattle.wording.specs.Grammar.{Condition}
use Rattle.wording.specs.Reader.{Reading, accepted, refused, reading}
use Rattle.wording.specs.Stored.{formula_c, tokens_of, deep, stored_of}

-- done, with the stored form's length and the number of its tokens; or refused, at an offset in the text
abbrev pub done_with : ℕ → ℕ → Result Stored TextFault
done_with n k = Ok (record { size = n; tokens = k })

abbrev pub text_fault : Refusal → ℕ → TextFault
text_fault why k = record { why = why; at = k }

abbrev pub refused_at : Refusal → ℕ → Result Stored TextFault
refused_at why k = Err (record { why = why; at = k })

-- at most 64 tokens, at most 16 deep
abbrev pub holdable : Condition → Bool
holdable c = leb (length (tokens_of c)) 64 && leb (deep (formula_c c)) 16

-- 17 (`Large`), over 64 tokens or depth 16; 8 (`Room`), the stored form has no room
unfoldable pub storing : ℕ → Condition → Result Stored TextFault
storing room c =
    need (holdable c) (refused_at Large 0)
    (need (leb (length (stored_of c)) room) (refused_at Room 0)
    (done_with (length (stored_of c)) (length (tokens_of c))))

unfoldable pub answer_by : ℕ → Reading → Result Stored TextFault
answer_by room (refused k) = refused_at Text k
answer_by room (accepted c) = storing room c

-- the answer where so many bytes are lent: 16 (`Text`), over 512 bytes, or where the text leaves the grammar
unfoldable pub translation_of : List ℕ → ℕ → Result Stored TextFault
translation_of s room = need (leb (length s) 512) (refused_at Text 512) (answer_by room (reading s))

-- the stored form of a text, nothing where it has none
unfoldable pub stored_by : Reading → List ℕ
stored_by (refused k) = []
stored_by (accepted c) = stored_of c

-- the lent bytes afterwards: the stored form on their front where it is done, and as they were where it is refused
unfoldable pub laid_on : Result Stored TextFault → List ℕ → List ℕ → List ℕ
laid_on (Err f) w d = d
laid_on (Ok n) w d = front w d

unfoldable pub out_after : List ℕ → List ℕ → List ℕ
out_after s d = laid_on (translation_of s (length d)) (stored_by (reading s)) d
