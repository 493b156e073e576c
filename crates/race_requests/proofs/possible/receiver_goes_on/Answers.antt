-- Each reader answers the word of the run so far.
use Rattle.std.proofs.Common.{Some, None, nat_lt, sym, ap, ◌∙◌}
use Rattle.race_records.specs.Declarations.{capacity_of}
use Rattle.race_requests.specs.Possible as possible
use Rattle.race_requests.proofs.possible.receiver_goes_on.Goals as goal

pub returns : goal.returns
returns g c past S =
    let D = c.args.decls.now.declarations in
    c.is_received.ensures
    ∙ (λ i. elim (c.front-first.ensures D past S i) [ Some v ↦ nat_lt 0 (c.capacity.ensures i) | None ↦ c.is_closed.ensures D past S i ])
    ∙ sym (ap (possible.receiver_goes_on (capacity_of D) past) c.in-Some.is)
