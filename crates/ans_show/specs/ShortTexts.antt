-- Short texts.
use Rattle.std.specs.Prelude.{ℕ, List, take}
use Rattle.ans_show.specs.declared.short_text.ShortText.{ShortText}

-- the bytes of a short text
abbrev pub short_bytes : {N : ℕ} → ShortText N → List ℕ
short_bytes text = take text.count text.bytes
