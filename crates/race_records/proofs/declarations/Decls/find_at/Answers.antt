use Rattle.std.proofs.Common.{Some, take, sym, ap, ◌∙◌}
use Rattle.race_records.{specs.Declarations.DeclsState, proofs.DeclsLemmas.{find_name-found, named_is_not_main}}
use Rattle.race_records.proofs.declarations.Decls.find_at.Goals as goal

pub returns-in-Some : goal.returns-in-Some
returns-in-Some g c =
    let name = take c.args.len c.args.bytes.now in
    let rows = c.self.inside.names in
    let other = named_is_not_main rows name c.in-Some.slot c.in-Some.ensures c.self.invariant.well_formed.not_main in
    let found =
    find_name-found rows c.self.inside.indexes c.self.invariant.numbered name c.args.self.now.declarations (Some c.in-Some.slot)
    (ap (λ (s : DeclsState). s.declarations) c.self.view_is) other (sym c.in-Some.ensures) in
    ap Some c.named.ensures ∙ sym found

pub returns : goal.returns
returns g c = cc
