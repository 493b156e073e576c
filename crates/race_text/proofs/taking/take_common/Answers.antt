-- No event was handed on.
use Rattle.std.proofs.Common.{[], refl}
use Rattle.race_text.proofs.taking.take_common.Goals as goal

pub take_common_behind-requires : goal.take_common_behind-requires
take_common_behind-requires g c = record { read = record { past = []; count = refl; is_read = c.requires.read } }
