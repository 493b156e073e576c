use Rattle.std.proofs.Common.{sym}
use Rattle.race_text.{specs.Words.words_of, proofs.UnseenLemmas.unseen_event}
use Rattle.race_text.proofs.event.read_event.Goals as goal

pub returns-in-None : goal.returns-in-None
returns-in-None g c = sym (unseen_event c.args.decls.now.version c.args.decls.now.declarations (words_of c.args.line.now) c.in-None.ensures)
