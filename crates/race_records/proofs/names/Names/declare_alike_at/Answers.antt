use Rattle.std.proofs.{Common.{◌≡◌, Some, option_map, sym, ap, ◌∙◌, true≢false}, lemmas.Option.same_Some}
use Rattle.std.proofs.lemmas.Slice.Eq.{bytes_eq-Decides}
use Rattle.race_records.{specs.Declarations.Declaration, proofs.NameLemmas.{declaration_at, name_at}}
use Rattle.race_records.proofs.names.Names.declare_alike_at.Goals as goal

pub returns-then-eq : goal.returns-then-eq
returns-then-eq g c =
    let here = declaration_at c.args.self.now c.args.index c.name.result.now c.slot.result c.name.ensures c.slot.ensures in
    let there = declaration_at c.args.other.now c.args.index c.name-2.result.now c.slot-then-eq.result c.name-2.ensures c.slot-then-eq.ensures in
    let named : c.name.result.now ≡ c.name-2.result.now = (bytes_eq-Decides _ _).0 (sym c.eq.ensures ∙ c.if-eq.true) in (
      λ same. here ∙ (λ i. Some (record { name = named i; object = c.is_same.ensures.0 same i })) ∙ sym there,
      λ e. c.is_same.ensures.1 (ap (λ (d : Declaration). d.object) (same_Some _ _ (sym here ∙ e ∙ there))),
    )

pub returns-else-eq : goal.returns-else-eq
returns-else-eq g c =
    let here = name_at c.args.self.now c.args.index c.name.result.now c.name.ensures in
    let there = name_at c.args.other.now c.args.index c.name-2.result.now c.name-2.ensures in (
      λ h. absurd (true≢false (sym h ∙ c.if-eq.false)),
      λ e. c.eq.ensures ∙ (bytes_eq-Decides _ _).1 (same_Some _ _ (sym here ∙ ap (option_map (λ (d : Declaration). d.name)) e ∙ there)),
    )
