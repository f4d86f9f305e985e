-- What a list that reads as done is, with no word of the answer: contracts and laws above go by these.
use Rattle.std.specs.Prelude.{◌≡◌, true, List, [], ◌∷◌, ℕ, zero, suc, ◌+◌, ◌-◌, ◌≤◌, ◌<◌, length, drop, get_or}
use Rattle.octets.specs.Bytes.{le}
use Rattle.list.specs.Entry.{Family, kind_ok, flags_ok, expression_ok, size_ok, kind_of, size_of, flags_of, head_of, word_of, sid_at, sid_len_of, sid_end, middle_of, sid_of, tail_of}
use Rattle.list.specs.List.{rev_ok, rev_of, count_of}

-- t begins with a good entry
pub record Sound (f : Family) (rev : ℕ) (t : List ℕ) : Type 0 where
  pub four : 4 ≤ length t
  pub within : size_of t ≤ length t
  pub kind : kind_ok f (kind_of t) rev ≡ true
  pub flags : flags_ok f (flags_of t) ≡ true
  pub head : head_of (kind_of t) ≤ size_of t
  pub word : word_of t ≤ 3
  pub eight : sid_at t + 8 ≤ size_of t
  pub sid : 0 < sid_len_of t
  pub expression : expression_ok t ≡ true
  pub tail : size_ok t ≡ true

-- e is a good entry and nothing more
pub record Whole (f : Family) (rev : ℕ) (e : List ℕ) : Type 0 where
  pub sound : Sound f rev e
  pub whole : size_of e ≡ length e

-- where the parts of a good entry lie in t, and how long they are
pub record Bounds (t : List ℕ) : Type 0 where
  pub eight : 8 ≤ sid_at t
  pub high : sid_at t ≤ 44
  pub sid : sid_end t ≤ size_of t
  pub inside : size_of t ≤ length t
  pub middle : length (middle_of t) ≡ sid_at t - 8
  pub sid-length : length (sid_of t) ≡ sid_len_of t
  pub tail-length : length (tail_of t) ≡ size_of t - sid_end t

-- t begins with n good entries
abbrev pub Passes : Family → ℕ → ℕ → List ℕ → Type 0
Passes f rev zero t = Unit
Passes f rev (suc n) t = Sound f rev t × Passes f rev n (drop (size_of t) t)

-- s begins with a good header
pub record Header (s : List ℕ) : Type 0 where
  pub long : 8 ≤ length s
  pub rev : rev_ok (rev_of s) ≡ true
  pub zero : get_or s 1 0 ≡ 0
  pub size : le 2 (drop 2 s) ≡ length s
  pub zeros : le 2 (drop 6 s) ≡ 0

-- s is a list of n good entries; spare bytes may follow them
pub record Listed (f : Family) (s : List ℕ) (n : ℕ) : Type 0 where
  pub head : Header s
  pub count : n ≡ count_of s
  pub passes : Passes f (rev_of s) n (drop 8 s)

-- each of several entries has P
abbrev pub Every : (List ℕ → Type 0) → List (List ℕ) → Type 0
Every P [] = Unit
Every P (e ∷ es) = P e × Every P es
