-- The line is taken behind those before it, and stays behind whatever is handed on.
use Rattle.std.proofs.Common.{[], ◌∷◌, ◌++◌}
use Rattle.race_text.specs.Stream.{events_of}
use Rattle.judging_tests.proofs.streams.take.Goals as goal

pub hand_over-requires : goal.hand_over-requires
hand_over-requires c = record {
  past = c.requires.past;
  lines = c.requires.lines ++ c.as_bytes.result.now ∷ [];
  stands = (c.in_ok-take_line.ensures.taken c.requires.past c.requires.lines c.requires.stands).stands;
}

pub returns-then-hands_on : goal.returns-then-hands_on
returns-then-hands_on c = record {
  past = c.requires.past ++ events_of c.take_line.new.self;
  lines = c.requires.lines ++ c.as_bytes.result.now ∷ [];
  stands = c.hand_over.ensures.stands c.requires.past (c.requires.lines ++ c.as_bytes.result.now ∷ [])
      (c.in_ok-take_line.ensures.taken c.requires.past c.requires.lines c.requires.stands).stands;
}

pub returns-else-hands_on : goal.returns-else-hands_on
returns-else-hands_on c = record {
  past = c.requires.past;
  lines = c.requires.lines ++ c.as_bytes.result.now ∷ [];
  stands = (c.in_ok-take_line.ensures.taken c.requires.past c.requires.lines c.requires.stands).stands;
}
