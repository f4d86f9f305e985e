-- Objects, settings and calls without spare bytes (RULES 1.4) in the lists that they have.
use Rattle.std.proofs.Math.Option.{none}
use Rattle.list.specs.List.{MaybeList}
use Rattle.inherit.specs.Spare.{bare_if}
use Rattle.tree.specs.Model.{Settings, Object, with_list}
use Rattle.tree.specs.Calls.{New, Edit, list, mark, owners, ChangeGiven, add, alter}
use Rattle.tree.specs.Shown.{Request, start, change, undo, read, counts}

abbrev pub bare_object : Object → Object
bare_object o = with_list (bare_if o.list) o

abbrev pub bare_settings : Settings → Settings
bare_settings t =
    record { object-limit = t.object-limit; step-limit = t.step-limit; rule = t.rule; mapping = t.mapping; default = bare_if t.default }

-- a call as it is made, with the list that it gives
abbrev pub bare_new : New → New
bare_new n =
    record {
      parent = n.parent;
      container = n.container;
      mark = n.mark;
      type = n.type;
      owner = n.owner;
      group = n.group;
      list = bare_if n.list;
    }

unfoldable pub bare_edit : Edit → Edit
bare_edit (list l) = list (bare_if l)
bare_edit (mark m) = mark m
bare_edit (owners o g) = owners o g

unfoldable pub bare_given : ChangeGiven → ChangeGiven
bare_given (add n) = add (bare_new n)
bare_given (alter i e) = alter i (bare_edit e)

unfoldable pub bare_request : Request → Request
bare_request (start t) = start (bare_settings t)
bare_request (change c) = change (bare_given c)
bare_request undo = undo
bare_request (read x i out) = read x i out
bare_request counts = counts

-- the list that a call gives, or none
unfoldable pub list_given : Request → MaybeList
list_given (start t) = t.default
list_given (change (add n)) = n.list
list_given (change (alter i (list l))) = l
list_given (change (alter i (mark m))) = none
list_given (change (alter i (owners o g))) = none
list_given undo = none
list_given (read x i out) = none
list_given counts = none
