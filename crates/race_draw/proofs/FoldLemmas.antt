-- A text is folded byte by byte, its longest line is found so, and a document is put in pieces.
use Rattle.std.proofs.Common.{◌≡◌, if◌then◌else◌, ◌==◌, ℕ, ◌+◌, ◌<◌, max, Bool, List, ◌∷◌, ◌++◌, length, get_or, drop}
use Rattle.std.proofs.{Common.{sym, ap, ◌∙◌, append_assoc}, lemmas.List.at_drop_more}
use Rattle.race_draw.specs.{declared.fold.Spot.Spot, Fold.{folded, folds, piece, next}, Svg.longest}

-- one byte more
pub one_more : (spot after : Spot) (text out new : List ℕ) (i d : ℕ) (fold : Bool) → i < length text
    → fold ≡ folds spot (get_or text i d) (drop (i + 1) text) → new ≡ out ++ piece spot (get_or text i d) fold → after ≡ next spot (get_or text i d) fold
    → new ++ folded after (drop (i + 1) text) ≡ out ++ folded spot (drop i text)
one_more spot after text out new i d fold less is_fold put goes =
    let rest = drop (i + 1) text in
    let byte = get_or text i d in
    let parts : new ++ folded after rest ≡ (out ++ piece spot byte fold) ++ folded (next spot byte fold) rest = λ j. put j ++ folded (goes j) rest in
    let same : piece spot byte fold ++ folded (next spot byte fold) rest ≡ folded spot (byte ∷ rest)
    = ap (λ (f : Bool). piece spot byte f ++ folded (next spot byte f) rest) is_fold in
    parts ∙ append_assoc out (piece spot byte fold) (folded (next spot byte fold) rest)
    ∙ ap (λ l. out ++ l) (same ∙ sym (at_drop_more (folded spot) text i d less))

-- the longest line from a byte on
pub longest_more : (text : List ℕ) (i d column : ℕ) → i < length text
    → longest column (drop i text)
    ≡ (if get_or text i d == 10 then max column (longest 0 (drop (i + 1) text)) else longest (column + 1) (drop (i + 1) text))
longest_more text i d column less = at_drop_more (longest column) text i d less

-- three pieces
pub three_put : (out one two three first second last first_is last_is : List ℕ) → one ≡ out ++ first → two ≡ one ++ second → three ≡ two ++ last
    → first ≡ first_is → last ≡ last_is → three ≡ out ++ (first_is ++ (second ++ last_is))
three_put out one two three first second last first_is last_is put more all same end =
    let pieces : two ++ last ≡ ((out ++ first) ++ second) ++ last = ap (λ l. l ++ last) (more ∙ ap (λ l. l ++ second) put) in
    all ∙ pieces ∙ append_assoc (out ++ first) second last ∙ append_assoc out first (second ++ last)
    ∙ (λ i. out ++ (same i ++ (second ++ end i)))
