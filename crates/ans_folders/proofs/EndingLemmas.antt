-- One file more with an ending.
use Rattle.std.proofs.Common.{◌≡◌, ◌+◌, Bool, true, false, cond, not, ◌&&◌, Some, refl, ap, ◌∙◌, unwrap_or, arith}
use Rattle.std.specs.BTreeMap.{get_by_text}
use Rattle.std.specs.Cmp.Lexicographic.{bytes_decides, nat_list_eq_equiv}
use Rattle.std.specs.Map.{update}
use Rattle.std.specs.Str.{bytes_eq}
use Rattle.ans_folders.specs.Paths.{Text}
use Rattle.ans_folders.specs.Endings.{CountsOneMore, ending_count, is_further}
use Rattle.ans_folders.specs.declared.endings.Endings.{Endings}

module _ (old new : Endings) (ending : Text) where
  -- the count of an ending is one more
  pub counts_set : is_further old ending ≡ false → new.further ≡ old.further
      → ((other : Text) → get_by_text new.counts other
      ≡ update bytes_eq (get_by_text old.counts) ending (Some (ending_count old ending + 1)) other)
      → CountsOneMore old new ending
  counts_set own same sets = record {
    counts = λ other. ap (λ o. unwrap_or o 0) (sets other) ∙ new_count other (bytes_eq ending other) refl;
    further = rw own (same ∙ omega arith);
  }
    where
      new_count : (other : Text) (b : Bool) → bytes_eq ending other ≡ b
          → unwrap_or
          (cond (bytes_eq ending other) (Some (ending_count old ending + 1)) (get_by_text old.counts other)) 0
          ≡ ending_count old other + cond (bytes_eq other ending && not (is_further old ending)) 1 0
      new_count other true is =
          rw (nat_list_eq_equiv.symm other ending, is, own)
          (ap (λ e. ending_count old e + 1) ((bytes_decides ending other).0 is))
      new_count other false is = rw (nat_list_eq_equiv.symm other ending, is) (omega arith)
