use Rattle.std.{proofs.{Common.{ap, ◌∙◌}, Math.Seq.take-length}, specs.List.list_all}
use Rattle.race_records.specs.Name.{is_place_byte}
use Rattle.race_text.proofs.WordLemmas.{name_is_visible}
use Rattle.race_explain.proofs.operand.look_up.Goals as goal

pub find_at-requires-clause-visible : goal.find_at-requires-clause-visible
find_at-requires-clause-visible g c = ap (list_all is_place_byte) (take-length c.args.word.now) ∙ name_is_visible c.args.word.now c.requires
