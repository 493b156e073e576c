use Rattle.std.proofs.Common.{◌≡◌, [], Ok, length}
use Rattle.race_text.specs.{Meaning.pieces_on, Select.pieces_of, Words.parts_left}
use Rattle.race_script.specs.Offers.{offer_in}
use Rattle.race_script.proofs.offers.offers_in.Given as goal

abbrev pub invariant-loop-left : goal.invariant-loop-left
invariant-loop-left g l =
    pieces_on (offer_in l.decls.declarations) l.offers (parts_left 44 l.left) ≡ pieces_on (offer_in l.decls.declarations) (Ok []) (pieces_of l.fn.word)

abbrev pub decreases-loop-left : goal.decreases-loop-left
decreases-loop-left g l = length (parts_left 44 l.left)
