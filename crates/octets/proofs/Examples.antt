-- Bytes by computation: numbers, parts, what a writer leaves, bits, equality, GUIDs.
use mathlib.Core.Path.{◌≡◌, refl}
use mathlib.Core.Bool.{true, false}
use mathlib.Core.List.{[], ◌∷◌}
use lib.ListN.{replicate}
use Rattle.octets.specs.Bytes.{le, spell, has, same_bytes, among, part, put_on, put_at, guid_at}

-- numbers, parts, and what a writer leaves
pub bytes-worked :
    (le 2 (1 ∷ 2 ∷ 3 ∷ []) ≡ 513)
    × ((le 4 (0x78 ∷ 0x56 ∷ 0x34 ∷ 0x12 ∷ 9 ∷ []) ≡ 0x12345678)
    × ((le 4 (1 ∷ []) ≡ 1)
    × ((spell 4 0x12345678 ≡ 0x78 ∷ 0x56 ∷ 0x34 ∷ 0x12 ∷ [])
    × ((part 1 2 (5 ∷ 6 ∷ 7 ∷ 8 ∷ []) ≡ 6 ∷ 7 ∷ [])
    × ((part 3 2 (5 ∷ 6 ∷ 7 ∷ 8 ∷ []) ≡ 8 ∷ [])
    × ((put_on (1 ∷ 2 ∷ []) (5 ∷ 6 ∷ 7 ∷ []) ≡ 1 ∷ 2 ∷ 7 ∷ [])
    × ((put_on (1 ∷ 2 ∷ 3 ∷ []) (5 ∷ 6 ∷ []) ≡ 1 ∷ 2 ∷ [])
    × (put_at 1 (1 ∷ 2 ∷ []) (5 ∷ 6 ∷ 7 ∷ 8 ∷ []) ≡ 5 ∷ 1 ∷ 2 ∷ 8 ∷ []))))))))
unfolding le spell part put_on put_at
bytes-worked = (refl, (refl, (refl, (refl, (refl, (refl, (refl, (refl, refl))))))))

-- bits of a number, any of several; and bytes that are one of several, whole
pub tests-worked :
    (has 0x08 0x18 ≡ true)
    × ((has 0x08 0x17 ≡ false)
    × ((has 0xF0000000 0x20000001 ≡ true)
    × ((has 0xF0000000 0x0FFFFFFF ≡ false)
    × ((among (1 ∷ 2 ∷ []) ((1 ∷ []) ∷ (1 ∷ 2 ∷ []) ∷ []) ≡ true)
    × ((among (1 ∷ 2 ∷ []) ((1 ∷ 2 ∷ 3 ∷ []) ∷ (2 ∷ 1 ∷ []) ∷ (1 ∷ []) ∷ []) ≡ false) × (among [] [] ≡ false))))))
unfolding among same_bytes
tests-worked = (refl, (refl, (refl, (refl, (refl, (refl, refl))))))

-- a GUID that is there, and one that isn't whole
pub guids-worked : (guid_at (7 ∷ replicate 16 9) 1 ≡ replicate 16 9) × (guid_at (7 ∷ replicate 15 9) 1 ≡ replicate 16 0)
unfolding guid_at
guids-worked = (refl, refl)
