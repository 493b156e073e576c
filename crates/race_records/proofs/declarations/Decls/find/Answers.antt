use Rattle.std.proofs.Common.{Some, option_map, sym, ap, ◌∙◌, rules}
use Rattle.race_records.{specs.Declarations.DeclsState, proofs.DeclsLemmas.{slot_stands, find_name-found}}
use Rattle.race_records.proofs.declarations.Decls.find.Goals as goal

pub returns-in-Some : goal.returns-in-Some
returns-in-Some g c =
    let found =
    find_name-found c.self.inside.names c.self.inside.indexes c.self.invariant.numbered c.args.name.now c.args.self.now.declarations c.find.result
    (ap (λ (s : DeclsState). s.declarations) c.self.view_is) (sym c.eq.ensures ∙ c.if-eq.false) c.find.ensures in
    ap Some c.named.ensures ∙ sym (found ∙ ap (option_map slot_stands) c.in-Some.is)

pub returns-in-None : goal.returns-in-None
returns-in-None g c =
    let found =
    find_name-found c.self.inside.names c.self.inside.indexes c.self.invariant.numbered c.args.name.now c.args.self.now.declarations c.find.result
    (ap (λ (s : DeclsState). s.declarations) c.self.view_is) (sym c.eq.ensures ∙ c.if-eq.false) c.find.ensures in
    sym (found ∙ ap (option_map slot_stands) c.in-None.is)

pub returns-then-eq : goal.returns-then-eq
returns-then-eq g c = search rules steps 100000
