-- Each reader answers the word of the run so far.
use Rattle.std.proofs.Common.{◌≡◌, ◌||◌, ◌&&◌, not, Bool, true, false, true≢false, refl, sym, ap, ◌∙◌}
use Rattle.race_records.specs.Declarations.{capacity_of}
use Rattle.race_requests.specs.{declared.request.Ask.Ask, Possible.goes_on}
use Rattle.race_requests.proofs.possible.is_held_up.Goals as goal

off : (b : Bool) → not b ≡ true → b ≡ false
off false is = refl
off true is = absurd (true≢false (sym is))

pub returns-in-Lock : goal.returns-in-Lock
returns-in-Lock g c past S held who branch =
    let D = c.args.decls.now.declarations in
    ap (λ (a : Ask). goes_on (capacity_of D) past who a branch) c.in-Lock.is
    ∙ sym (c.neither.ensures ∙ (λ i. not (c.is_held.ensures D past S i) && not (c.is_read_held.ensures D past S i)))
    ∙ off c.neither.result held

pub returns-in-RLock : goal.returns-in-RLock
returns-in-RLock g c past S held who branch =
    let D = c.args.decls.now.declarations in
    ap (λ (a : Ask). goes_on (capacity_of D) past who a branch) c.in-RLock.is
    ∙ ap not (sym (c.is_held-in-RLock.ensures D past S) ∙ held)

pub returns-in-Do : goal.returns-in-Do
returns-in-Do g c past S held who branch =
    let D = c.args.decls.now.declarations in
    ap (λ (a : Ask). goes_on (capacity_of D) past who a branch) c.in-Do.is
    ∙ sym (c.implies.ensures ∙ (λ i. not (c.is_begun.ensures D past S i) || c.is_ended.ensures D past S i))
    ∙ off c.implies.result held
