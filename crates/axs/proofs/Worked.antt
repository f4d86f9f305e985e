-- Small inputs, computed: what a run says of each, whatever the room held.
use mathlib.Core.Path.{◌≡◌, refl, ap, ◌∙◌}
use mathlib.Core.List.{List, [], ◌∷◌}
use mathlib.Core.Option.{some}
use Prim.Native.Nat.{ℕ}
use native.Mathlib.Omega.{arith}
use lib.ListN.{length}
use Rattle.axs.specs.declared.Channel.TheVariants.{Output, Error}
use Rattle.octets.specs.Bytes.{le}
use Rattle.tree.specs.Shown.{lists_in}
use Rattle.tree.specs.Model.{objects_of}
use Rattle.tree.proofs.Trees.{model_open}
use Rattle.script.specs.Record.{record_size, form_ok, step_of}
use Rattle.script.specs.Fold.{on_step, run_by, run_of, on_call, calls_by, calls_of, all_pieces}
use Rattle.script.specs.Text.{digits, decimal, lines, heading, listing, bad_line}
use Rattle.script.specs.Play.{script_head_ok, Listed, fresh, ending_after, ending_of, text_of}
use Rattle.script.proofs.Folds.{run_none}
use Rattle.script.proofs.Plays.{tree_of, listed-afresh}
use Rattle.axs.specs.Reads.{Gave, Broke, on_records, on_head, on_bytes, end_at, after_read, then_read, course_of, nothing_read}
use Rattle.axs.specs.Speech.{unread_text, speech, speech_of}
use Rattle.axs.proofs.Inputs.{handed, handed-said}

-- `AXS` and the version
abbrev head : List ℕ
head = 0x41 ∷ 0x58 ∷ 0x53 ∷ 1 ∷ 0 ∷ []

-- the head alone lists the tree as it begins
head-whole : ending_of head ≡ Listed (lists_in fresh)
unfolding le script_head_ok ending_after ending_of
head-whole = rw (run_none fresh) refl

-- no record, no object
none_made : length (objects_of (tree_of head)) ≡ 0
unfolding record_size step_of on_call calls_by calls_of model_open
none_made = refl

no-lists : {A : Type 0} (os : List A) → length os ≡ 0 → os ≡ []
no-lists [] n = refl
no-lists (x ∷ os) n = absurd (omega arith)

-- its one line, byte for byte
head-listed : text_of (ending_of head) ≡ 111 ∷ 98 ∷ 106 ∷ 101 ∷ 99 ∷ 116 ∷ 115 ∷ 32 ∷ 48 ∷ 10 ∷ []
unfolding digits decimal lines heading listing text_of
head-listed =
    let e = no-lists (lists_in fresh) ((listed-afresh head (lists_in fresh) head-whole).all ∙ none_made) in
    ap text_of (head-whole ∙ ap Listed e) ∙ refl

-- the head alone, two bytes and then three, and its end: "objects 0"
pub head-said : (r : List ℕ)
    → speech_of (course_of (Gave (0x41 ∷ 0x58 ∷ []) ∷ Gave (0x53 ∷ 1 ∷ 0 ∷ []) ∷ Gave [] ∷ []) (nothing_read r))
    ≡ some (record { to = Output; text = 111 ∷ 98 ∷ 106 ∷ 101 ∷ 99 ∷ 116 ∷ 115 ∷ 32 ∷ 48 ∷ 10 ∷ [] })
unfolding handed all_pieces
head-said r =
    handed-said ((0x41 ∷ 0x58 ∷ []) ∷ (0x53 ∷ 1 ∷ 0 ∷ []) ∷ []) r (omega arith)
    ∙ ap (λ (t : List ℕ). some (record { to = Output; text = t })) head-listed

-- the head cut after four bytes: "bad at 0"
pub cut-said : (r : List ℕ)
    → speech_of (course_of (Gave (0x41 ∷ 0x58 ∷ 0x53 ∷ 1 ∷ []) ∷ Gave [] ∷ []) (nothing_read r))
    ≡ some (record { to = Output; text = 98 ∷ 97 ∷ 100 ∷ 32 ∷ 97 ∷ 116 ∷ 32 ∷ 48 ∷ 10 ∷ [] })
unfolding digits decimal bad_line text_of on_head on_bytes end_at after_read then_read course_of nothing_read speech speech_of
cut-said r = refl

-- the head and 09, which no record begins with: "bad at 5", before the input ends
pub bad-said : (r : List ℕ)
    → speech_of (course_of (Gave (0x41 ∷ 0x58 ∷ 0x53 ∷ 1 ∷ 0 ∷ []) ∷ Gave (9 ∷ []) ∷ []) (nothing_read r))
    ≡ some (record { to = Output; text = 98 ∷ 97 ∷ 100 ∷ 32 ∷ 97 ∷ 116 ∷ 32 ∷ 53 ∷ 10 ∷ [] })
unfolding le record_size form_ok step_of on_step run_by run_of digits decimal bad_line script_head_ok text_of on_records on_head on_bytes after_read then_read course_of nothing_read speech speech_of
bad-said r = refl

-- two bytes, and then a read that fails: the input could not be read
pub broke-said : (r : List ℕ)
    → speech_of (course_of (Gave (0x41 ∷ 0x58 ∷ []) ∷ Broke ∷ []) (nothing_read r)) ≡ some (record { to = Error; text = unread_text })
unfolding on_head on_bytes after_read then_read course_of nothing_read speech speech_of
broke-said r = refl
