-- Which object is above which, which are apart, and changes to such objects by one person or two (RULES 13): of own data, with no word of how a list is worked out.
use Rattle.std.specs.Prelude.{ℕ, ◌≡◌, Bool, cond, List, [], ◌∷◌, map, ◌⊎◌, length}
use Rattle.std.specs.Bool.{beq}
use Rattle.std.proofs.Math.Option.{some}
use Rattle.list.specs.Answer.{Values}
use Rattle.tree.specs.Model.{Object, object, Change, add, set_list, set_mark, set_owners}
use Rattle.tree.specs.Calls.{Edit, alter}
use Rattle.tree.specs.Shown.{Request, change, answer_to, played_on, answers_on}

-- ---- objects

-- object i is above object j: it is j's parent, or above j's parent
pub data Above (os : List Object) (i : ℕ) : ℕ → Type 0 where
  parent : {j : ℕ} → (object os j).parent ≡ some i → Above os i j
  further : {j p : ℕ} → (object os j).parent ≡ some p → Above os i p → Above os i j

-- object k is object i, or below it
abbrev pub Within : List Object → ℕ → ℕ → Type 0
Within os i k = (k ≡ i) ⊎ Above os i k

-- it is neither
abbrev pub Elsewhere : List Object → ℕ → ℕ → Type 0
Elsewhere os i k = Within os i k → ⊥

-- neither of two objects is the other nor above it
abbrev pub Apart : List Object → ℕ → ℕ → Type 0
Apart os i j = Elsewhere os i j × Elsewhere os j i

-- the object that a change is to; an add's is the new one
unfoldable pub changed_by : Change → List Object → ℕ
changed_by (add o) os = length os
changed_by (set_list i l) os = i
changed_by (set_mark i m) os = i
changed_by (set_owners i owner group) os = i

-- ---- changes of list, mark, or owner and group

-- to which object, and what of it
pub record Alter : Type 0 where
  pub object : ℕ
  pub edit : Edit

-- the call that asks for it
abbrev pub alters : Alter → Request
alters c = change (alter c.object c.edit)

-- the room after such calls, and what they answer, the latest first
abbrev pub altered_by : List Alter → List ℕ → List ℕ
altered_by cs r = played_on (map alters cs) r

abbrev pub altered_answers : List Alter → List ℕ → List Values
altered_answers cs r = answers_on (map alters cs) r

-- each is to an object apart from object i
abbrev pub ApartFrom : List Object → ℕ → List Alter → Type 0
ApartFrom os i [] = Unit
ApartFrom os i (c ∷ cs) = Apart os i c.object × ApartFrom os i cs

-- any two are to objects apart
abbrev pub AllApart : List Object → List Alter → Type 0
AllApart os [] = Unit
AllApart os (c ∷ cs) = ApartFrom os c.object cs × AllApart os cs

-- ---- two at work

-- a change, and whose it is: the first's or the second's
pub record Turn : Type 0 where
  pub first : Bool
  pub change : Alter

-- the changes of one of them, in their order
unfoldable pub turns_of : Bool → List Turn → List Alter
turns_of who [] = []
turns_of who (z ∷ zs) = cond (beq z.first who) (z.change ∷ turns_of who zs) (turns_of who zs)

-- the room after the turns of both, and what those of one of them answer, the latest first
abbrev pub turned_by : List Turn → List ℕ → List ℕ
turned_by zs r = altered_by (map (λ (z : Turn). z.change) zs) r

unfoldable pub answers_of : Bool → List Turn → List ℕ → List Values
answers_of who [] r = []
answers_of who (z ∷ zs) r = cond (beq z.first who) (answer_to (alters z.change) (turned_by zs r) ∷ answers_of who zs r) (answers_of who zs r)

-- one of them keeps to folder a, the other to what is apart from it
abbrev pub Keeps : List Object → Bool → ℕ → List Turn → Type 0
Keeps os who a [] = Unit
Keeps os who a (z ∷ zs) = cond (beq z.first who) (Within os a z.change.object) (Apart os a z.change.object) × Keeps os who a zs

-- each of the two keeps to a folder of their own
abbrev pub InFolders : List Object → ℕ → ℕ → List Turn → Type 0
InFolders os a b [] = Unit
InFolders os a b (z ∷ zs) = Within os (cond z.first a b) z.change.object × InFolders os a b zs
