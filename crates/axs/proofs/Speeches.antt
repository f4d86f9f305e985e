-- What is said of a run that is over.
use mathlib.Core.Path.{◌≡◌, refl, sym, ap}
use mathlib.Core.Bool.{true, false, not}
use mathlib.Core.List.{List}
use Prim.Native.Nat.{ℕ, ◌≤◌, ◌<◌}
use native.Mathlib.Omega.{arith}
use lib.ListN.{length, take}
use lib.Dec.{eqb}
use Rattle.axs.specs.declared.Channel.TheVariants.{Output, Error}
use lib.Seq.{take_at}
use Rattle.octets.specs.Bytes.{Bytes, front}
use Rattle.octets.specs.Order.{need}
use Rattle.octets.proofs.Tests.{tests, off}
use Rattle.octets.proofs.Writes.{length_front}
use Rattle.list.specs.Answer.{Values}
use Rattle.tree.specs.Shown.{lists_in}
use Rattle.tree.specs.Formed.{formed}
use Rattle.std.specs.Prelude.{Ok, Err}
use Rattle.refusal.specs.declared.Fault.{Fault}
use Rattle.tree.specs.Calls.{Answer, Promised, copied, answer_values}
use Rattle.tree.specs.declared.Done.{Done}
use Rattle.script.specs.Play.{Ending, Listed, BadAt, text_of, ending_answer, text_to, listing_to}
use Rattle.script.proofs.Listings.{listing-most, bad-most}
use Rattle.axs.specs.declared.End.{End}
use Rattle.axs.specs.declared.End.TheVariants.{Whole, Bad, Failed}
use Rattle.axs.specs.declared.Said.{Said}
use Rattle.axs.specs.Speech.{speech, speech_of, Spoken, RunSays, unread_text}
use Rattle.axs.specs.Reads.{Reached}
use Rattle.axs.specs.Inner.Buffered.{Listable}
use Rattle.axs.proofs.Inputs.{whole-listable}

-- a text that was copied, as there is room for it
module _ (e : Ending) (out : List ℕ) (fits : length (text_of e) ≤ length out) where
  text-copied : text_to e out ≡ record { answer = ending_answer e; bytes = front (text_of e) out }
  unfolding text_to copied need
  text-copied = simp tests

  ending-long : (d : Done) → answer_values (Ok d) ≡ answer_values (ending_answer e) → d.length ≡ length (text_of e)
  unfolding ending_answer text_of
  ending-long d h = by e h
    where
      by : (x : Ending) → answer_values (Ok d) ≡ answer_values (ending_answer x) → d.length ≡ length (text_of x)
      by (Listed os) f = ap (λ (v : Values). v.length) f
      by (BadAt m) f = ap (λ (v : Values). v.length) f

  ending-done : (x : Ending) → not (eqb (answer_values (ending_answer x)).number 0) ≡ false
  unfolding ending_answer
  ending-done (Listed os) = refl
  ending-done (BadAt n) = refl

  text-done : (d : Done) {b : List ℕ} → Promised (text_to e out) (Ok d) b → (d.length ≤ length b) × (take d.length b ≡ text_of e)
  text-done d p =
      let q = rw text-copied at p in
      let l = ending-long d q.answer.values in
      (rw (q.bytes, l) (rw (length_front (text_of e) out fits) fits), rw q.bytes (take_at (text_of e) _ d.length (sym l)))

  text-never : {f : Fault} {b : List ℕ} → Promised (text_to e out) (Err f) b → ⊥
  text-never p = let q = rw text-copied at p in off (sym q.answer.refuses) (ending-done e)

-- what `script` answered and wrote for a run that ended so is its text, which is for standard output
pub record Texted (e : End) (r : List ℕ) (a : Answer) (b : List ℕ) : Type 0 where
  pub text : List ℕ
  pub says : speech e r ≡ record { to = Output; text = text }
  pub whole : (d : Done) → a ≡ Ok d → (d.length ≤ length b) × (take d.length b ≡ text)
  pub never : (f : Fault) → a ≡ Err f → ⊥

texted : {e : End} {r : List ℕ} {a : Answer} {b : List ℕ} (out : List ℕ) (x : Ending) → length (text_of x) ≤ length out → speech e r ≡ record { to = Output; text = text_of x }
    → Promised (text_to x out) a b → Texted e r a b
texted out x h s p =
    record { text = text_of x; says = s; whole = λ d e. text-done x out h d (rw e at p); never = λ f e. text-never x out h (rw e at p) }

module _ (e : End) (r out : List ℕ) (l : length out ≡ 4096) {a : Answer} {b : List ℕ} where
  pub whole-texted : e ≡ Whole → Listable e r → Bytes r → Promised (listing_to r out) a b → Texted e r a b
  unfolding speech Listable listing_to need
  whole-texted f h d p =
      let g : formed r ≡ true = rw f at h in
      let m = listing-most r g d in
      texted out (Listed (lists_in r)) (omega arith) (rw f refl) (rw g at p)

  pub bad-texted : {n : ℕ} → e ≡ Bad n → n < 18446744073709551616 → Promised (text_to (BadAt n) out) a b → Texted e r a b
  unfolding speech
  bad-texted {n} f h p = let m = bad-most n h in texted out (BadAt n) (omega arith) (rw f refl) p

-- it is what is said
pub spoken : {e : End} {r : List ℕ} {a : Answer} {b : List ℕ} (t : Texted e r a b) (x : Said) → x.to ≡ Output → x.text.now ≡ t.text → Spoken x (speech e r)
spoken t x f g = rw t.says (record { to = f; text = g })

-- that the input could not be read is said whatever the room holds
pub failed-said : {e : End} (r : List ℕ) (x : Said) → e ≡ Failed → x.to ≡ Error → x.text.now ≡ unread_text → Spoken x (speech e r)
unfolding speech
failed-said r x e f g = rw e (record { to = f; text = g })

-- a run that is over says so
pub answers : (r : List ℕ) (e : End) (q : List ℕ) → Reached r e q → (x : Said) → Spoken x (speech e q) → RunSays r x
unfolding Reached speech_of
answers r e q (rs, h) x s = record { reads = rs; speaks = speech e q; is = rw h refl; said = s }

pub reached-listable : (r : List ℕ) (e : End) (q : List ℕ) → Reached r e q → Listable e q
unfolding Reached
reached-listable r e q (rs, h) = whole-listable rs r e q h
