use Rattle.std.proofs.Common.{ℕ, ◌+◌, ◌<◌, List, length, get_or, rules, set, arith, inl, inr}
use Rattle.std.proofs.lemmas.Bool.{cases_eq}
use Rattle.std.proofs.lemmas.Grind.{get_or-set_at}
use Rattle.std.proofs.lemmas.List.{get_or-set_other}
use Rattle.ans_write.specs.Tables.{byte_text, IsSpelling}
use Rattle.ans_write.proofs.character_table.CharacterTable.new.Goals as goal

-- one character more in the table
one_more : (bytes : List (List ℕ)) (counts : List ℕ) (i : ℕ) (four : List ℕ) (count : ℕ) → i < length bytes
    → i < length counts → IsSpelling four count (byte_text i)
    → ((b : ℕ) (d : List ℕ) (k : ℕ) → b < i → IsSpelling (get_or bytes b d) (get_or counts b k) (byte_text b))
    → (b : ℕ) (d : List ℕ) (k : ℕ) → b < i + 1
    → IsSpelling (get_or (set bytes i four) b d) (get_or (set counts i count) b k) (byte_text b)
one_more bytes counts i four count lt lt' here before b d k l = elim (cases_eq b i) [
  | inl e ↦ rw (get_or-set_at bytes i b four d e lt, get_or-set_at counts i b count k e lt', e) here
  | inr ne ↦ rw (get_or-set_other bytes i b four d ne, get_or-set_other counts i b count k ne)
      (before b d k (omega arith))
]

pub loop-byte-preserved : goal.loop-byte-preserved
loop-byte-preserved c =
    let h = c.loop-byte.invariant in
    record {
      size = search rules;
      sizes = search rules;
      so_far = one_more c.loop-byte.bytes c.loop-byte.counts c.loop-byte.byte _ _ (omega arith) (omega arith)
          (record { short = c.utf8_character-count.result.within; spells = c.utf8_character-count.ensures }) h.so_far;
    }
