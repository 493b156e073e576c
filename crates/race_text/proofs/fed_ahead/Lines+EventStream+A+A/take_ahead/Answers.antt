-- Lines are taken where no part of one is left before them.
use Rattle.race_text.specs.{Fault.trace_causes, Stream.StandsFor}
use Rattle.race_text.proofs.{AheadTaken.front_is, FedLemmas.match_map}
use Rattle.race_text.proofs.fed_ahead.Lines+EventStream+A+A.take_ahead.Goals as goal

pub returns-then-is_between_lines-clause-taken : goal.returns-then-is_between_lines-clause-taken
returns-then-is_between_lines-clause-taken g c =
    rw (c.is_between_lines.ensures.0 c.if-is_between_lines.true)
    (match_map _ _ _ _ c.take_parts.result
    (λ at taken k. front_is trace_causes (StandsFor k c.args.self.now.reader) (StandsFor k c.take_parts.new.reader) at c.args.piece.now (taken k))
    (λ told tells k. (tells k).told) c.take_parts.ensures.taken)

pub returns-then-is_between_lines-clause-owed : goal.returns-then-is_between_lines-clause-owed
returns-then-is_between_lines-clause-owed g c =
    match_map _ _ _ _ c.take_parts.result (λ _ _. tt) (λ told tells none k. (tells k).owed) c.take_parts.ensures.taken
