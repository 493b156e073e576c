use Rattle.std.proofs.Common.{◌<◌, length, sym, subst, ◌∙◌}
use Rattle.race_records.specs.Declarations as spec
use Rattle.race_records.proofs.DeclsLemmas.{name-indexed, index_within}
use Rattle.race_records.proofs.declarations.Decls.nth_name.Goals as goal

pub name-requires : goal.name-requires
name-requires g c =
    let s = c.self.inside in
    index_within s.names s.indexes c.self.invariant.numbered c.args.kind c.args.n c.get.result c.get.ensures
    (subst (λ (d : spec.DeclsState). c.args.n < length (spec.of_kind c.args.kind d.declarations)) (sym c.self.view_is) c.requires)

pub returns : goal.returns
returns g c =
    let s = c.self.inside in
    (λ i. spec.nth_name c.args.kind (sym c.self.view_is i).declarations c.args.n)
    ∙ sym (name-indexed s.names s.indexes c.self.invariant.numbered c.args.kind c.args.n c.get.result c.get.ensures) ∙ c.name.ensures
