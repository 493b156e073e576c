use Rattle.race_text.proofs.{EventLines.op_words_are, HeaderLemmas.version_again, WordTable.object_words_are}
use Rattle.race_text.proofs.WordTable.{decl_keyword_known, op_keyword_known, op_keyword_unknown}
use Rattle.race_text.proofs.laws.lines_follow_the_tables.Goals as goal

pub returns : goal.returns
returns c = record {
  declarations = object_words_are;
  events = op_words_are;
  decl_keyword_known = decl_keyword_known;
  op_keyword_known = op_keyword_known;
  op_keyword_unknown = op_keyword_unknown;
  header_known = version_again;
}
