use Rattle.std.proofs.Common.{◌≡◌, ◌+◌, ◌<◌, true, length, refl, arith}
use Rattle.race_records.specs.Name.{is_place}
use Rattle.race_text.specs.Common.{line_in, said_of}
use Rattle.race_text.proofs.{AheadLemmas.{kept_ahead, later, rest_is}, TraceLemmas.{fitting, says_event}}
use Rattle.race_text.proofs.ahead.read_at.Goals.{In-Some}
use Rattle.race_text.proofs.ahead.read_at.Goals as goal

module _ (g : _) (c : In-Some g) where
  less : c.args.at + length c.in-Some.rest.now < length c.args.bytes.now
  less = later c.args.bytes.now c.bytes_from.result.now (line_in c.bytes_from.result.now) c.in-Some.rest.now c.args.at c.bytes_from.ensures c.in-Some.ensures.ends

  form : is_place c.in-Some.said.place.now ≡ true
  form = (fitting c.args.decls.now (line_in c.bytes_from.result.now) (said_of c.in-Some.said)
      (says_event c.args.decls.now c.args.decls.now (line_in c.bytes_from.result.now) (said_of c.in-Some.said) c.requires.decls refl
      (c.in-Some.ensures.says c.args.decls.now.version))).place

pub overflow_sub-end : goal.overflow_sub-end
overflow_sub-end g c = let l = less g c in omega (arith, l)

pub number_met-number-requires : goal.number_met-number-requires
number_met-number-requires g c = form g (goal.at.number_met-number-requires g c).In-Some

pub returns-clause-line : goal.returns-clause-line
returns-clause-line g c =
    let l = less g (goal.at.returns-clause-line g c).In-Some in
    kept_ahead _ _ c.args.bytes.now c.bytes_from.result.now c.in-Some.rest.now c.in-Some.said c.number_met-number.result c.args.at _ c.line_said.result
    c.bytes_from.ensures c.in-Some.ensures
    (rest_is c.args.bytes.now c.bytes_from.result.now (line_in c.bytes_from.result.now) c.in-Some.rest.now c.args.at c.bytes_from.ensures c.in-Some.ensures.ends)
    (omega (arith, l)) c.number_met-number.ensures c.line_said.ensures

pub returns-clause-later : goal.returns-clause-later
returns-clause-later g c = let l = less g (goal.at.returns-clause-later g c).In-Some in omega (arith, l)
