-- What the row of a partner tells.
use Rattle.std.proofs.Common.{◌≡◌, ℕ, Option, Some, None, sym, subst, ◌∙◌}
use Rattle.race_records.specs.declared.event.Op.{Op}
use Rattle.race_requests.specs.{declared.request.{Answer.Answer, Waiter.Waiter}, Table.{done_by, told_at}}
use Rattle.race_requests.proofs.ChoiceLemmas.{some_is}
use Rattle.race_hub.specs.Fires.{IsPartnerRow}

-- it tells one thing
pub told_once : (o : Option Waiter) (w : Waiter) (branch : ℕ) (op : Op) (told found : Option Answer) → o ≡ Some w
    → told_at w.asked.ask branch (done_by w.who op) ≡ Some found → IsPartnerRow o branch op told → IsPartnerRow o branch op found
told_once None w branch op told found is row rows = absurd cc
told_once (Some v) w branch op told found is row rows =
    let at : told_at v.asked.ask branch (done_by v.who op) ≡ Some found =
    subst (λ (x : Waiter). told_at x.asked.ask branch (done_by x.who op) ≡ Some found) (sym (some_is is)) row in
    let same : told ≡ found = some_is (sym rows.1 ∙ at) in
    subst (λ t. IsPartnerRow (Some v) branch op t) same rows
