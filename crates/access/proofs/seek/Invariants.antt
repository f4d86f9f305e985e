-- With some entries gone past, what is found from there on is what is found from the first on. Assumes nothing.
use Rattle.access.proofs.Seeks.{Seeking}
use Rattle.access.proofs.seek.Given as goal

abbrev pub invariant-loop : goal.invariant-loop
invariant-loop l = Seeking l.entries l.place l.count l.counter l.at
