-- A number that is found is below the count.
use Rattle.std.proofs.{Common.{◌∙◌, ap, sym, filter, slice_get, rules}, Math.Nat.mod-eq_of_lt}
use Rattle.std.proofs.lemmas.Option.{slice_get_within}
use Rattle.race_requests.specs.Choices.{tuples}
use Rattle.race_requests.proofs.search.pick_choice.Goals as goal

pub returns-in-At : goal.returns-in-At
returns-in-At g c =
    let list = filter (g.B.Board.admitted c.args.board.now) (tuples (g.B.Board.size c.args.board.now) (g.B.Board.branches_at c.args.board.now)) in
    let within = slice_get_within list c.args.pick c.in-At.choice c.in-At.ensures in
    sym c.in-At.ensures ∙ ap (slice_get list) (sym (mod-eq_of_lt within))

pub returns-in_default : goal.returns-in_default
returns-in_default g c = search rules steps 100000

pub returns : goal.returns
returns g c = search rules steps 100000
