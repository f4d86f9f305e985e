-- Each public function's contract allows one result only, and one content of what it is lent to change.
use mathlib.Core.Path.{◌≡◌, sym, ◌∙◌}
use Rattle.octets.proofs.Determinacy.{Determines, OneResult}
use Rattle.octets.proofs.numbers.byte_in.Kinds as byte-in
use Rattle.octets.proofs.numbers.byte_in.Reads as byte-in-reads
use Rattle.octets.proofs.numbers.half_in.Kinds as half_in
use Rattle.octets.proofs.numbers.half_in.Reads as half-in-reads
use Rattle.octets.proofs.numbers.word_in.Kinds as word_in
use Rattle.octets.proofs.numbers.word_in.Reads as word-in-reads
use Rattle.octets.proofs.numbers.part_of.Kinds as part_of
use Rattle.octets.proofs.numbers.part_of.Reads as part-of-reads
use Rattle.octets.proofs.numbers.same_bytes.Kinds as same_bytes
use Rattle.octets.proofs.numbers.same_bytes.Reads as same-bytes-reads
use Rattle.octets.proofs.numbers.put.Kinds as put
use Rattle.octets.proofs.numbers.put.Reads as put_reads

pub byte-in-determined : OneResult 1 byte-in.ps byte-in.r byte-in-reads.Learnt
byte-in-determined κs a x y s t p q = p ∙ sym q

pub half-in-determined : OneResult 1 half_in.ps half_in.r half-in-reads.Learnt
half-in-determined κs a x y s t p q = p ∙ sym q

pub word-in-determined : OneResult 1 word_in.ps word_in.r word-in-reads.Learnt
word-in-determined κs a x y s t p q = p ∙ sym q

pub same-bytes-determined : OneResult 2 same_bytes.ps same_bytes.r same-bytes-reads.Learnt
same-bytes-determined κs a x y s t p q = p ∙ sym q

-- the bytes of the part
pub part-of-determined : Determines 1 part_of.ps part_of.r (λ κs x y s t. x.now ≡ y.now) part-of-reads.Learnt
part-of-determined κs a x y s t p q = p ∙ sym q

-- the buffer afterwards
pub put-determined : Determines 2 put.ps put.r (λ κs x y s t. s.0.now ≡ t.0.now) put_reads.Learnt
put-determined κs a x y s t p q = p ∙ sym q
