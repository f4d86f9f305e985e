-- What two trees of the model have in common: all that calls see until an undo (`Alike`), or all of one object (`Kept`).
use mathlib.Core.Path.{◌≡◌, refl, sym, ap, ap₂, ◌∙◌}
use mathlib.Core.Bool.{Bool, true, false, cond}
use mathlib.Core.List.{List}
use mathlib.Core.Option.{some}
use Prim.Native.Nat.{ℕ, suc, min}
use native.Mathlib.Omega.{arith}
use lib.ListN.{length}
use lib.Dec.{leb, ltb}
use Rattle.octets.specs.Order.{need}
use Rattle.octets.specs.Bytes.{front}
use Rattle.list.specs.Answer.{Values, done, refused}
use Rattle.tree.specs.Model as Model
use Rattle.tree.specs.Model.{Settings, Object, Part, object, list_of, Change, apply, objects_after, change_answer, accepted, Call, change, Tree, objects_of, begun, answer, noted, next}

-- ---- one more call

abbrev pub next_by : Bool → Tree → Change → Tree
next_by b s c = cond b (noted s c) s

pub next-change : (s : Tree) (c : Change) → next s (change c) ≡ next_by (accepted (answer s (change c))) s c
unfolding next
next-change s c = refl

pub answer-change : (s : Tree) (c : Change) → answer s (change c) ≡ change_answer s.settings (objects_of s) c
unfolding answer
answer-change s c = refl

pub noted-objects : (s : Tree) (c : Change) → objects_of (noted s c) ≡ apply c (objects_of s)
unfolding objects_after
noted-objects s c = refl

-- ---- trees with the same settings, objects and number of kept steps

pub record Alike (s u : Tree) : Type 0 where
  pub settings-are : s.settings ≡ u.settings
  pub objects-are : objects_of s ≡ objects_of u
  pub kept-are : s.kept ≡ u.kept

pub alike_same : (s : Tree) → Alike s s
alike_same s = record { settings-are = refl; objects-are = refl; kept-are = refl }

pub alike_turned : (s u : Tree) → Alike s u → Alike u s
alike_turned s u A = record { settings-are = sym A.settings-are; objects-are = sym A.objects-are; kept-are = sym A.kept-are }

pub alike-on : (s u v : Tree) → Alike s u → Alike u v → Alike s v
alike-on s u v A B =
    record {
      settings-are = A.settings-are ∙ B.settings-are;
      objects-are = A.objects-are ∙ B.objects-are;
      kept-are = A.kept-are ∙ B.kept-are;
    }

pub alike_is : (s u v w : Tree) → s ≡ v → u ≡ w → Alike v w → Alike s u
alike_is s u v w e f A = rw (e, f) A

module _ (s u : Tree) (A : Alike s u) where
  pub answer-alike : (q : Call) → answer s q ≡ answer u q
  unfolding answer
  answer-alike (Model.start t enough) = refl
  answer-alike (change c) = ap₂ (λ (t : Settings) (os : List Object). change_answer t os c) A.settings-are A.objects-are
  answer-alike Model.undo = ap Model.undo_answer A.kept-are
  answer-alike (Model.read x i out) = ap₂ (λ (t : Settings) (os : List Object). Model.read_answer t os x i (length out)) A.settings-are A.objects-are
  answer-alike Model.counts = ap₂ (λ (os : List Object) (k : ℕ). done (length os) 1 k 0) A.objects-are A.kept-are

  noted-alike : (c : Change) → Alike (noted s c) (noted u c)
  noted-alike c =
      record {
        settings-are = A.settings-are;
        objects-are = noted-objects s c ∙ ap (apply c) A.objects-are ∙ sym (noted-objects u c);
        kept-are = ap₂ (λ (t : Settings) (k : ℕ). min t.step-limit (suc k)) A.settings-are A.kept-are;
      }

  by_alike : (b : Bool) (c : Change) → Alike (next_by b s c) (next_by b u c)
  by_alike true c = noted-alike c
  by_alike false c = A

  pub next-alike : (c : Change) → Alike (next s (change c)) (next u (change c))
  next-alike c =
      alike_is (next s (change c)) (next u (change c)) (next_by (accepted (answer u (change c))) s c) (next_by (accepted (answer u (change c))) u c)
      (next-change s c ∙ ap (λ (v : Values). next_by (accepted v) s c) (answer-alike (change c))) (next-change u c) (by_alike (accepted (answer u (change c))) c)

  -- a start begins anew or changes nothing, what is read changes nothing
  start-alike : (b : Bool) (t : Settings) → Alike (cond b (begun t) s) (cond b (begun t) u)
  start-alike true t = alike_same (begun t)
  start-alike false t = A

-- a call that isn't an undo
unfoldable pub undoes : Call → Bool
undoes (Model.start t enough) = false
undoes (change c) = false
undoes Model.undo = true
undoes (Model.read x i out) = false
undoes Model.counts = false

pub call-alike : (s u : Tree) → Alike s u → (q : Call) → undoes q ≡ false → Alike (next s q) (next u q)
unfolding undoes next answer
call-alike s u A (Model.start t enough) h = start-alike s u A (accepted (Model.start_answer t enough)) t
call-alike s u A (change c) h = next-alike s u A c
call-alike s u A Model.undo h = let z : ◌≡◌ {A = ℕ} 0 1 = cc in absurd (omega arith)
call-alike s u A (Model.read x i out) h = A
call-alike s u A Model.counts h = A

-- ---- one object

pub record Kept (s u : Tree) (k : ℕ) : Type 0 where
  pub own-data : object (objects_of u) k ≡ object (objects_of s) k
  pub stands : ltb k (length (objects_of u)) ≡ ltb k (length (objects_of s))
  pub list : ltb k (length (objects_of s)) ≡ true → list_of u.settings (objects_of u) k ≡ list_of s.settings (objects_of s) k

pub kept_same : (s : Tree) (k : ℕ) → Kept s s k
kept_same s k = record { own-data = refl; stands = refl; list = λ h. refl }

pub kept-alike : (s u : Tree) (k : ℕ) → Alike u s → Kept s u k
kept-alike s u k A =
    record {
      own-data = ap (λ (os : List Object). object os k) A.objects-are;
      stands = ap (λ (os : List Object). ltb k (length os)) A.objects-are;
      list = λ h. ap₂ (λ (t : Settings) (os : List Object). list_of t os k) A.settings-are A.objects-are;
    }

pub kept_on : (s u v : Tree) (k : ℕ) → Kept s u k → Kept u v k → Kept s v k
kept_on s u v k K M =
    record { own-data = M.own-data ∙ K.own-data; stands = M.stands ∙ K.stands; list = λ h. M.list (K.stands ∙ h) ∙ K.list h }

-- of such an object the same is read back
module _ (s u : Tree) (k : ℕ) (K : Kept s u k) where
  module _ (h : ltb k (length (objects_of s)) ≡ true) where
    bytes-kept : (x : Part) → Model.part_bytes u.settings (objects_of u) x k ≡ Model.part_bytes s.settings (objects_of s) x k
    unfolding Model.part_bytes
    bytes-kept Model.computed-list = ap Model.bytes_if (K.list h)
    bytes-kept Model.own-list = ap (λ (o : Object). Model.bytes_if (some o.list)) K.own-data
    bytes-kept Model.other-data = ap Model.data_bytes K.own-data

    told-kept : (x : Part) → Model.part_told u.settings (objects_of u) x k ≡ Model.part_told s.settings (objects_of s) x k
    unfolding Model.part_told
    told-kept Model.computed-list = ap Model.told (K.list h)
    told-kept Model.own-list = ap (λ (o : Object). Model.told (some o.list)) K.own-data
    told-kept Model.other-data = ap (λ (o : Object). done (length (Model.data_bytes o)) 1 0 0) K.own-data

  pub read_kept : (x : Part) (room : ℕ) → Model.read_answer u.settings (objects_of u) x k room ≡ Model.read_answer s.settings (objects_of s) x k room
  unfolding Model.read_answer need
  read_kept x room = rw K.stands (by (ltb k (length (objects_of s))) refl)
    where
      by : (b : Bool) → ltb k (length (objects_of s)) ≡ b
          → need b (refused 9 0 0) (need (leb (length (Model.part_bytes u.settings (objects_of u) x k)) room) (refused 8 0 0) (Model.part_told u.settings (objects_of u) x k))
          ≡ need b (refused 9 0 0) (need (leb (length (Model.part_bytes s.settings (objects_of s) x k)) room) (refused 8 0 0) (Model.part_told s.settings (objects_of s) x k))
      by true h = rw (bytes-kept h x, told-kept h x) refl
      by false h = refl

  pub into-kept : (x : Part) (out : List ℕ) → Model.read_into u.settings (objects_of u) x k out ≡ Model.read_into s.settings (objects_of s) x k out
  unfolding Model.read_into Model.read_answer need
  into-kept x out =
      ap (λ (v : Values). cond (accepted v) (front (Model.part_bytes u.settings (objects_of u) x k) out) out) (read_kept x (length out)) ∙ by (ltb k (length (objects_of s))) refl
    where
      by : (b : Bool) → ltb k (length (objects_of s)) ≡ b
          → cond (accepted (Model.read_answer s.settings (objects_of s) x k (length out))) (front (Model.part_bytes u.settings (objects_of u) x k) out) out
          ≡ cond (accepted (Model.read_answer s.settings (objects_of s) x k (length out))) (front (Model.part_bytes s.settings (objects_of s) x k) out) out
      by true h = rw (bytes-kept h x) refl
      by false h = rw h refl
