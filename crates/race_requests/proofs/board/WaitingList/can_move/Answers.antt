use Rattle.std.proofs.Common.{sym, arith}
use Rattle.race_records.specs.Declarations.{capacity_of}
use Rattle.race_requests.{specs.Choices.{is_move, stands_in, tuples_of}, proofs.MoveLemmas.{some_of_both, none_of_both}}
use Rattle.race_requests.proofs.board.WaitingList.can_move.Goals as goal

pub returns-in-At : goal.returns-in-At
returns-in-At g c =
    let list = c.args.self.now in
    sym (some_of_both (is_move (capacity_of list.declarations) list.past list.waiting) (stands_in c.args.place) (tuples_of list.waiting) c.in-At.field-0
    c.in-At.ensures)

pub returns-in-Left : goal.returns-in-Left
returns-in-Left g c =
    let list = c.args.self.now in
    let left = c.in-Left.ensures in
    sym (none_of_both (is_move (capacity_of list.declarations) list.past list.waiting) (stands_in c.args.place) (tuples_of list.waiting) (omega (arith, left)))
