use Rattle.std.proofs.Common.{◌≡◌, List, [], ◌∷◌, ◌++◌, Some, ap, map, sym, subst, ◌∙◌}
use Rattle.race_records.specs.{Tables.{Row, row, slot_named}, Shorts.AreNoted}
use Rattle.race_records.proofs.{NameLemmas.{row_of, insert_entry-new}, ShortLemmas.{noted_before, slot_last}}
use Rattle.race_records.proofs.names.Names.push.{Goals.After-note, Given.Over}
use Rattle.race_records.proofs.names.Names.push.Goals as goal

-- the table has one more row
pushed : (g : Over) (c : After-note g) → map row_of c.insert.new.self.entries ≡ c.args.self.now ++ row c.args.name.now c.args.slot ∷ []
pushed g c =
    ap (map row_of) c.in_ok-insert.ensures.entries ∙ insert_entry-new c.self.inside.slots.entries c.args.self.now
    c.self.view_is c.in_ok-text.text c.args.slot c.args.name.now c.in_ok-text.ensures.ok c.requires

pub returns-clause-ok : goal.returns-clause-ok
returns-clause-ok g c = pushed g c

pub invariant_of-self-2 : goal.invariant_of-self-2
invariant_of-self-2 g c =
    let rows = c.args.self.now ++ row c.args.name.now c.args.slot ∷ [] in
    let before = noted_before c.args.self.now (row c.args.name.now c.args.slot) c.self.inside.shorts
    (subst (λ (r : List Row). AreNoted r c.self.inside.shorts) c.self.view_is c.self.invariant) in
    let named : slot_named c.as_bytes.result.now rows ≡ Some c.args.slot =
    (λ i. slot_named (c.as_bytes.ensures.value i) rows) ∙ slot_last c.args.name.now c.args.self.now c.args.slot c.requires in
    subst (λ (r : List Row). AreNoted r c.note.new.self) (sym (pushed g c)) (c.note.ensures rows before named)

-- where memory is refused the names are the old ones
pub invariant_of-self : goal.invariant_of-self
invariant_of-self g c = subst (λ entries. AreNoted (map row_of entries) c.self.inside.shorts) (sym c.in_err-insert.ensures.err) c.self.invariant
