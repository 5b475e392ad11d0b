-- Texts by their pieces.
use Rattle.std.proofs.Common.{◌≡◌, ℕ, List, [], ◌∷◌, length, refl, arith, ◌<◌}
use Rattle.std.specs.Prelude.{flat_map}
use Rattle.ans_show.specs.declared.markup.Markup.{Markup}
use Rattle.ans_show.specs.declared.markup.Markup.TheVariants.{Terminal, Page}
use Rattle.ans_show.specs.Markups.{IsPage, character_in}
use Rattle.ans_show.specs.PageText.{page_bytes, page_title}

-- a page shows bytes so
pub page_characters : (markup : Markup) → IsPage markup → (bytes : List ℕ)
    → flat_map (character_in markup) bytes ≡ page_bytes bytes
page_characters (Terminal vga non_blink) never bytes = absurd never
page_characters (Page non_blink) is bytes = refl

-- a title of some bytes
pub title_of_some : (title : List ℕ) → 0 < length title → page_bytes title ≡ page_title title
title_of_some [] some = absurd (omega arith)
title_of_some (b ∷ title) some = refl
