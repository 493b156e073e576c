use Rattle.std.proofs.Common.{◌<◌, length, sym, subst, ◌∙◌, arith}
use Rattle.race_records.{specs.declared.kind.Kind.Kind, proofs.DeclsLemmas.{object-indexed, index_within}}
use Rattle.race_records.specs.Declarations as spec
use Rattle.race_records.proofs.declarations.Decls.capacity.Goals as goal

pub slot-requires : goal.slot-requires
slot-requires g c =
    let s = c.self.inside in
    index_within s.names s.indexes c.self.invariant.numbered Kind.Chan c.args.chan c.get-index.result c.get-index.ensures
    (subst (λ (d : spec.DeclsState). c.args.chan < length (spec.of_kind Kind.Chan d.declarations))
    (sym c.self.view_is) (let less = c.requires in omega (arith, less)))

pub returns : goal.returns
returns g c =
    let s = c.self.inside in
    c.width.ensures ∙ object-indexed s.names s.indexes c.self.invariant.numbered Kind.Chan
    c.args.chan c.get-index.result c.get-index.ensures spec.width_of 0 c.slot.result c.slot.ensures
    ∙ (λ i. spec.capacity_of (c.self.view_is i).declarations c.args.chan)
