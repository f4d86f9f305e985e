-- What a change puts, as the code hands it on.
use Rattle.tree.specs.declared.puts.Put as Handed
use Rattle.tree.specs.Calls.{Put}
use Rattle.tree.specs.Inner.Tags.{tag_byte}

abbrev pub put_of : Handed.Put → Put
put_of p = record { tag = tag_byte p.tag; object = p.object; place = p.place; bytes = p.bytes.now; standing = p.standing }
