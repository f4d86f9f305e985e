-- The definitions, computed: records, numbers and texts, and the script of RULES 6.7 with the whole text that it writes.
use mathlib.Core.Path.{◌≡◌, refl, sym, ap, ◌∙◌}
use mathlib.Core.Bool.{true, false}
use mathlib.Core.List.{List, [], ◌∷◌, ◌++◌, flatten}
use mathlib.Core.Option.{some, none}
use Prim.Native.Nat.{ℕ}
use native.Mathlib.Omega.{arith}
use lib.ListN.{length, get_or, replicate}
use Rattle.list.specs.List.{MaybeList}
use Rattle.octets.specs.Bytes.{le, part, guid_at}
use Rattle.octets.specs.Order.{need}
use Rattle.inherit.proofs.Worked.{system, parent_with}
use Rattle.tree.specs.Shown.{change, undo, lists_in}
use Rattle.tree.specs.Model.{list_of, objects_of}
use Rattle.refusal.specs.declared.Refusal.TheVariants as Why
use Rattle.tree.specs.Formed.{counts_ok, formed}
use Rattle.tree.specs.Calls.{tells, refusal, list, mark, owners, nobody, add, alter, copied}
use Rattle.tree.proofs.Worked.{lists, bytes_open, entries_open, lists_open, copies_open, last_open, compute-open}
use Rattle.tree.proofs.Trees.{model_open, calls-open}
use Rattle.std.specs.Prelude.{Ok, Err}
use Rattle.script.specs.declared.records.Asks.TheVariants.{SetList, SetMark, SetOwner, Undo}
use Rattle.script.specs.declared.records.Flaw.TheVariants.{Cut, Bad}
use Rattle.script.specs.Record.{name_end, list_end, parent_named, record_size, form_ok, asks_by, request_of, record_asks, step_of}
use Rattle.script.specs.Fold.{past, on_step, run_by, run_of, on_call, calls_by, calls_of, all_pieces}
use Rattle.script.specs.Text.{digits, decimal, columns_by, columns, line, lines, heading, listing, bad_line}
use Rattle.script.specs.Play.{began, script_head_ok, Listed, BadAt, ending_after, fresh, ending_of, text_of, ending_answer, text_to, listing_to}
use Rattle.script.proofs.Plays.{tree_of, listed-afresh}

-- ---- records

-- an empty slice is cut, and so is every start of a record; undo is its number alone; 6 and 0 are unknown
pub steps-worked :
    (step_of [] ≡ Err Cut)
    × ((step_of (5 ∷ []) ≡ Ok (record { length = 1; asks = Undo }))
    × ((step_of (6 ∷ []) ≡ Err Bad)
    × ((step_of (0 ∷ []) ≡ Err Bad)
    × ((step_of (3 ∷ 0 ∷ []) ≡ Err Cut)
    × ((step_of (3 ∷ 9 ∷ 1 ∷ 5 ∷ []) ≡ Ok (record { length = 3; asks = SetMark }))
    × ((step_of (3 ∷ 9 ∷ 2 ∷ []) ≡ Err Bad)
    × ((step_of (2 ∷ 0 ∷ 0 ∷ 0 ∷ []) ≡ Ok (record { length = 4; asks = SetList }))
    × ((step_of (2 ∷ 0 ∷ 1 ∷ 0 ∷ []) ≡ Err Cut)
    × (step_of (4 ∷ 0 ∷ 0 ∷ 2 ∷ 7 ∷ 7 ∷ 1 ∷ []) ≡ Ok (record { length = 6; asks = SetOwner }))))))))))
unfolding le name_end list_end record_size form_ok asks_by step_of
steps-worked = (refl, (refl, (refl, (refl, (refl, (refl, (refl, (refl, (refl, refl)))))))))

-- a length of 0 removes the list; FF is no parent, and an object's number like any other
pub asked-worked :
    (record_asks (2 ∷ 7 ∷ 0 ∷ 0 ∷ []) ≡ change (alter 7 (list none)))
    × ((record_asks (2 ∷ 0xFF ∷ 1 ∷ 0 ∷ 9 ∷ []) ≡ change (alter 255 (list (some (9 ∷ [])))))
    × ((record_asks (3 ∷ 1 ∷ 1 ∷ []) ≡ change (alter 1 (mark true)))
    × ((record_asks (4 ∷ 0 ∷ 0 ∷ 2 ∷ 7 ∷ 8 ∷ []) ≡ change (alter 0 (owners [] (7 ∷ 8 ∷ []))))
    × ((record_asks (5 ∷ []) ≡ undo) × ((parent_named 0xFF ≡ nobody) × (parent_named 0xFE ≡ 254))))))
unfolding le part name_end list_end parent_named asks_by request_of record_asks
asked-worked = (refl, (refl, (refl, (refl, (refl, (refl, refl))))))

-- an add, each field in its place
pub add-worked :
    record_asks (1 ∷ 7 ∷ 0 ∷ 1 ∷ ((4 ∷ replicate 14 5) ++ (6 ∷ 1 ∷ 0x21 ∷ 2 ∷ 0x31 ∷ 0x32 ∷ 1 ∷ 0 ∷ 9 ∷ [])))
    ≡ change
    (add
    (record { parent = 7; container = false; mark = true; type = (4 ∷ replicate 14 5) ++ (6 ∷ []); owner = 0x21 ∷ []; group = 0x31 ∷ 0x32 ∷ []; list = some (9 ∷ []) }))
unfolding le part guid_at name_end list_end parent_named asks_by request_of record_asks
add-worked = refl

-- ---- runs: nothing, a bad record, a cut one

pub runs-worked : (r : List ℕ)
    → (run_of [] r ≡ record { used = 0; bad = false; room = r })
    × ((run_of (6 ∷ []) r ≡ record { used = 0; bad = true; room = r }) × (run_of (3 ∷ 0 ∷ []) r ≡ record { used = 0; bad = false; room = r }))
unfolding le name_end list_end record_size form_ok asks_by step_of on_step run_by run_of
runs-worked r = (refl, (refl, refl))

pub pieces-worked : all_pieces ((1 ∷ 2 ∷ []) ∷ [] ∷ (3 ∷ []) ∷ []) ≡ 1 ∷ 2 ∷ 3 ∷ []
unfolding all_pieces
pieces-worked = refl

-- ---- a script's head, and the tree that it is played on

pub heads-worked :
    (ending_of (0x41 ∷ 0x58 ∷ 0x53 ∷ 1 ∷ 0 ∷ 6 ∷ []) ≡ BadAt 5)
    × ((ending_of (0x42 ∷ 0x58 ∷ 0x53 ∷ 1 ∷ 0 ∷ 6 ∷ []) ≡ BadAt 0)
    × ((ending_of (0x41 ∷ 0x59 ∷ 0x53 ∷ 1 ∷ 0 ∷ 6 ∷ []) ≡ BadAt 0)
    × ((ending_of (0x41 ∷ 0x58 ∷ 0x54 ∷ 1 ∷ 0 ∷ 6 ∷ []) ≡ BadAt 0)
    × ((ending_of (0x41 ∷ 0x58 ∷ 0x53 ∷ 2 ∷ 0 ∷ 6 ∷ []) ≡ BadAt 0)
    × ((ending_of (0x41 ∷ 0x58 ∷ 0x53 ∷ 1 ∷ 1 ∷ 6 ∷ []) ≡ BadAt 0) × (ending_of (0x41 ∷ 0x58 ∷ 0x53 ∷ 1 ∷ []) ≡ BadAt 0))))))
unfolding le name_end list_end record_size form_ok asks_by step_of past on_step run_by run_of script_head_ok ending_after ending_of
heads-worked = (refl, (refl, (refl, (refl, (refl, (refl, refl))))))

pub began-worked :
    began ≡ record { object-limit = 16; step-limit = 16; rule = 2; mapping = record { read = 0x00120089; write = 0x00120116; execute = 0x001200A0; all = 0x001F01FF }; default = none }
began-worked = refl

-- ---- texts

pub numbers-worked :
    (decimal 0 ≡ 48 ∷ []) × ((decimal 9 ≡ 57 ∷ []) × ((decimal 10 ≡ 49 ∷ 48 ∷ []) × (decimal 66069 ≡ 54 ∷ 54 ∷ 48 ∷ 54 ∷ 57 ∷ [])))
unfolding digits decimal
numbers-worked = (refl, (refl, (refl, refl)))

-- "objects 2", "0 none 0", "1 8 0"; and "bad at 81"
pub texts-worked :
    (listing (none ∷ some (2 ∷ 0 ∷ 8 ∷ 0 ∷ 0 ∷ 0 ∷ 0 ∷ 0 ∷ []) ∷ [])
    ≡ 111 ∷ 98 ∷ 106 ∷ 101 ∷ 99 ∷ 116 ∷ 115 ∷ 32 ∷ 50 ∷ 10
    ∷ 48 ∷ 32 ∷ 110 ∷ 111 ∷ 110 ∷ 101 ∷ 32 ∷ 48 ∷ 10
    ∷ 49 ∷ 32 ∷ 56 ∷ 32 ∷ 48 ∷ 10 ∷ [])
    × (bad_line 81 ≡ 98 ∷ 97 ∷ 100 ∷ 32 ∷ 97 ∷ 116 ∷ 32 ∷ 56 ∷ 49 ∷ 10 ∷ [])
unfolding le digits decimal columns_by columns line lines heading listing bad_line
texts-worked = (refl, refl)

-- in a lent buffer: the text on its front, its length, whether it is the listing, how many objects; 8 where it doesn't fit; 13 where there is no tree
pub answers-worked :
    (text_to (BadAt 0) (replicate 10 7) ≡ record { answer = tells 9 false 0; bytes = 98 ∷ 97 ∷ 100 ∷ 32 ∷ 97 ∷ 116 ∷ 32 ∷ 48 ∷ 10 ∷ 7 ∷ [] })
    × ((text_to (BadAt 0) (replicate 8 7) ≡ record { answer = refusal Why.Room 0 0; bytes = replicate 8 7 })
    × ((ending_answer (Listed (none ∷ [])) ≡ tells 19 true 1) × (listing_to [] (7 ∷ []) ≡ record { answer = refusal Why.Tree 0 0; bytes = 7 ∷ [] })))
unfolding need formed counts_ok digits decimal columns_by columns line lines heading listing bad_line text_of ending_answer copied text_to listing_to
answers-worked = (refl, (refl, (refl, refl)))

-- ---- the script of RULES 6.7

-- owner and group S-1-5-18
abbrev names : List ℕ
names = 12 ∷ (system ++ (12 ∷ system))

-- the worked parent as the root's own list, and one container below
abbrev records : List ℕ
records =
    (1 ∷ 0xFF ∷ 1 ∷ 0 ∷ replicate 16 0)
    ++ (names
    ++ (28 ∷ 0 ∷ (parent_with 0x03
    ++ ((1 ∷ 0 ∷ 1 ∷ 0 ∷ replicate 16 0) ++ (names ++ (0 ∷ 0 ∷ []))))))

abbrev document : List ℕ
document = 0x41 ∷ 0x58 ∷ 0x53 ∷ 1 ∷ 0 ∷ records

-- its two records are whole, and no byte is left
whole : ending_of document ≡ Listed (lists_in (run_of records fresh).room)
unfolding le flatten name_end list_end record_size form_ok asks_by step_of past on_step run_by run_of script_head_ok ending_after ending_of
whole = refl

-- what its records open, beside what a tree does
records-open : Unit {0}
unfolding name_end list_end parent_named record_size form_ok asks_by request_of record_asks step_of on_call calls_by calls_of calls-open model_open
records-open = tt

-- what the model says of its two records: two objects, and their lists
document-lists : (list_of (tree_of document).settings (objects_of (tree_of document)) 0 ≡ some (get_or lists 0 none))
    × ((list_of (tree_of document).settings (objects_of (tree_of document)) 1 ≡ some (get_or lists 1 none)) × (length (objects_of (tree_of document)) ≡ 2))
unfolding bytes_open entries_open lists_open copies_open last_open compute-open records-open
document-lists = (refl, (refl, refl))

-- two lists that are these are all
two-lists : (os : List MaybeList) (a b : MaybeList) → length os ≡ 2 → some (get_or os 0 none) ≡ some a → some (get_or os 1 none) ≡ some b → os ≡ a ∷ b ∷ []
two-lists [] a b n p q = absurd (omega arith)
two-lists (x ∷ []) a b n p q = absurd (omega arith)
two-lists (x ∷ y ∷ []) a b n p q =
    let e : x ≡ a = cc in
    let f : y ≡ b = cc in
    rw (e, f) refl
two-lists (x ∷ y ∷ z ∷ os) a b n p q = absurd (omega arith)

-- its three lines, byte for byte
pub document-listed :
    text_of (ending_of document)
    ≡ 111 ∷ 98 ∷ 106 ∷ 101 ∷ 99 ∷ 116 ∷ 115 ∷ 32 ∷ 50 ∷ 10
    ∷ 48 ∷ 32 ∷ 50 ∷ 56 ∷ 32 ∷ 49 ∷ 10
    ∷ 49 ∷ 32 ∷ 52 ∷ 56 ∷ 32 ∷ 50 ∷ 10 ∷ []
unfolding le digits decimal columns_by columns line lines heading listing text_of flatten
document-listed =
    let L = listed-afresh document (lists_in (run_of records fresh).room) whole in
    let n = L.all ∙ document-lists.1.1 in
    let e : lists_in (run_of records fresh).room ≡ lists =
    two-lists _ _ _ n (sym (L.each 0 (omega arith)) ∙ document-lists.0) (sym (L.each 1 (omega arith)) ∙ document-lists.1.0) in
    ap text_of (whole ∙ ap Listed e) ∙ refl
