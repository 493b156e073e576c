-- Each reader answers the word of the run so far.
use Rattle.std.proofs.Common.{◌==◌, ◌||◌, ◌&&◌, not, nat_lt, sym, ap, ◌∙◌}
use Rattle.race_records.specs.Declarations.{capacity_of}
use Rattle.race_requests.specs.Possible as possible
use Rattle.race_requests.proofs.possible.sender_goes_on.Goals as goal

pub returns : goal.returns
returns g c past S =
    let D = c.args.decls.now.declarations in
    let closed = c.is_closed.ensures D past S in
    c.either.ensures
    ∙ (λ i. closed i || c.has_room-room.ensures i)
    ∙ (λ i. closed 1 || (nat_lt 0 (c.capacity.ensures i) && not (c.buffered.ensures D past S i == c.capacity.ensures i)))
    ∙ sym (ap (possible.sender_goes_on (capacity_of D) past) c.in-Some.is)
