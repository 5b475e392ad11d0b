-- The last words of a command.
use Rattle.std.proofs.Common.{◌≡◌, ℕ, Bool, true, false, List, Some, refl, sym}
use Rattle.std.specs.Prelude.{◌&&◌, if◌then◌else◌}
use Rattle.std.specs.Str.{IsUtf8, is_utf8}
use Rattle.std.proofs.lemmas.Str.{IsUtf8-from_is_utf8}
use Rattle.ans_save.specs.Names.{fixed_name}
use Rattle.ans_table.specs.ShellWord.{shows_itself}
use Rattle.ans_check.specs.LastWords.{last_words, names_words, stand_ins}

hidden : (utf8 shown : Bool) (a b : List ℕ) → (utf8 ≡ true → ⊥) → b ≡ (if utf8 && shown then a else b)
hidden true shown a b not = absurd (not refl)
hidden false shown a b not = refl

-- a name that is not UTF-8 cannot be typed
pub stand_ins_for : (name : List ℕ) → ¬ (IsUtf8 name) → stand_ins ≡ last_words (Some name)
stand_ins_for name not =
    hidden (is_utf8 name) (shows_itself 0 name) (names_words (fixed_name name) name) stand_ins
    (λ yes. not (IsUtf8-from_is_utf8 name yes))
