use Rattle.std.{proofs.Common.{◌≡◌, None, IsNone, position, refl, sym, subst, ◌∙◌}, specs.Str.bytes_eq}
use Rattle.race_records.specs.Declarations.{Declaration, DeclsState, decl_fault, count_of, kind_of}
use Rattle.race_records.{specs.{Rows.declarations_of, Tables.with_index}, proofs.DeclFaultLemmas.allowed_from_no_fault}
use Rattle.race_records.proofs.{DeclsKept.push_holds, DeclsLemmas.position-names}
use Rattle.race_records.proofs.declarations.Decls.append.Goals as goal

pub push-requires-2 : goal.push-requires-2
push-requires-2 g c =
    let name = c.args.name.now in
    let free = (allowed_from_no_fault c.args.self.now.declarations c.args.object name c.requires).free in
    subst IsNone (sym (position-names c.self.inside.names name
    ∙ (λ i. position (λ (d : Declaration). bytes_eq name d.name) (c.self.view_is i).declarations))) free.absent

pub invariant_of-self-in-Ok : goal.invariant_of-self-in-Ok
invariant_of-self-in-Ok g c =
    let name = c.args.name.now in
    let at_fields = subst (λ (s : DeclsState). decl_fault s.declarations c.args.object name ≡ None) (sym c.self.view_is) c.requires in
    let is : c.count-number.result ≡ count_of (kind_of c.args.object) (declarations_of c.self.inside.names) =
    c.count-number.ensures.count ∙ (λ i. count_of (c.kind-kind.ensures i) (sym c.self.view_is i).declarations) in
    push_holds c.self.inside c.self.invariant name c.args.object (allowed_from_no_fault _ c.args.object name at_fields) c.count-number.result is _
    c.in-Ok.ensures.ok (c.in_ok-push.ensures.ok ∙ (λ i. with_index (c.kind-kind.ensures i) (c.len.ensures i) c.self.inside.indexes)) refl refl
