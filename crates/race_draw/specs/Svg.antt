-- The SVG document of a text: each line of the text is one of the picture, and what is stressed has a colour. (Scalable Vector Graphics 2, "Text";
-- Extensible Markup Language 1.0, 2.4)
use Rattle.std.specs.Prelude.{ℕ, ◌+◌, ◌-◌, ◌*◌, ◌^◌, min, max, count_by, if◌then◌else◌, ◌==◌, nat_lt, nat_le, Bool, true, false, List, [], ◌∷◌, ◌++◌}
use Rattle.std.specs.{Prelude.{codes, decimal, map}, List.flat_map}
use Rattle.race_draw.specs.{declared.picture.TheConstants.STRESS, Fold.{folded, line_start}}

-- the byte without its stress
abbrev pub unstressed : ℕ → ℕ
unstressed byte = if nat_le STRESS byte then byte - STRESS else byte

-- what stands for a byte in the document: a line's end begins the next line of the picture
unfoldable pub escaped : ℕ → List ℕ
escaped byte =
    if byte == 10 then codes " </tspan\n><tspan x='16' dy='16'>"
    else if byte == 38 then codes "&amp;"
    else if byte == 60 then codes "&lt;"
    else if byte == 62 then codes "&gt;"
    else if byte == 34 then codes "&quot;"
    else if byte == 39 then codes "&#39;"
    else byte ∷ []

-- for one that may be stressed
abbrev pub in_svg : ℕ → List ℕ
in_svg byte =
    if nat_lt byte STRESS then escaped byte else codes "<tspan class='race'>" ++ (escaped (unstressed byte) ++ codes "</tspan>")

-- how the document begins, what it says of itself, and its colours
unfoldable pub svg_open : List ℕ
svg_open = codes "<svg xmlns='http://www.w3.org/2000/svg' width='"

unfoldable pub svg_style : List ℕ
svg_style =
    codes "' style='color-scheme:light dark'>\n<title>A run of goroutines</title>\n<desc>Each goroutine has a column, and time goes down. "
    ++ codes "Lines between columns are synchronization; dots are an order that is missing.</desc>\n<style>\nrect { fill: #fff }\n"
    ++ codes "text { font: 14px monospace; white-space: pre; fill: #222 }\n.race { fill: #c00; font-weight: bold }\n"
    ++ codes "@media (prefers-color-scheme: dark) { rect { fill: #111 } text { fill: #ddd } .race { fill: #f66 } }\n"
    ++ codes "</style>\n<rect width='100%' height='100%'/>\n<text xml:space='preserve'><tspan x='16' dy='16'>"

-- two numbers behind these words
abbrev pub pair : List ℕ → ℕ → List ℕ → ℕ → List ℕ
pair before width between height = before ++ (decimal width ++ (between ++ decimal height))

-- all up to the first line
unfoldable pub svg_head : ℕ → ℕ → List ℕ
svg_head width height =
    pair svg_open width (codes "' height='") height ++ (pair (codes "' viewBox='0 0 ") width (codes " ") height ++ svg_style)

-- how many columns the longest line of a text has, where so many stand before it
abbrev pub longest : ℕ → List ℕ → ℕ
longest column [] = column
longest column (byte ∷ text) = if byte == 10 then max column (longest 0 text) else longest (column + 1) text

-- how many lines a text has
abbrev pub lines : List ℕ → ℕ
lines text = count_by (λ byte. byte == 10) text

-- how far so many reach that are this far apart, with a margin, short of the greatest number
abbrev pub extent : ℕ → ℕ → ℕ → ℕ
extent count each margin = min (min (count * each) (2 ^ 64 - 1) + margin) (2 ^ 64 - 1)

-- the document of a text: 9 a column, 16 a line
abbrev pub svg_text : List ℕ → List ℕ
svg_text text =
    svg_head (extent (longest 0 text) 9 32) (extent (lines text) 16 36) ++ (flat_map in_svg text ++ codes "</tspan></text>\n</svg>\n")

-- the text in lines of at most 100 columns, as it stands or as an SVG document
abbrev pub in_form : Bool → List ℕ → List ℕ
in_form true text = svg_text (folded line_start text)
in_form false text = map unstressed (folded line_start text)
