use Rattle.std.proofs.Common.{◌≡◌, ◌+◌, ◌∙◌, ◌++◌, ◌∷◌, [], ℕ, List, length, ap, arith}
use Rattle.std.specs.{Prelude.slice_set, List.copy_within}
use Rattle.race_access.{specs.declared.access.Access.Access, proofs.KeepSteps.shifted}
use Rattle.race_access.proofs.accesses.put_at.Goals as goal

pub returns : goal.returns
returns g c =
    let old = c.args.reads.now.items in
    let place = c.args.place in
    let len = c.len-end.ensures in
    let ok = c.args.reads.now.ok in
    let end : c.len-end.result ≡ length old = omega (arith, len, ok.0) in
    let pushed = c.push_reserved.ensures.items in
    ap (λ (items : List Access). slice_set items place c.args.access)
    (c.copy_within.ensures.items ∙ (λ i. copy_within (pushed i) place (end i) (place + 1)))
    ∙ shifted old place c.args.access c.requires.within
