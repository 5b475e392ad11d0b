-- Line ends at the very end that are taken out of a file.
use Rattle.std.proofs.Common.{◌≡◌, inl, inr, ℕ, Bool, true, List, ◌++◌, ◌-◌, ◌≤◌, length, take, drop, refl, sym, ap}
use Rattle.std.proofs.Common.{◌∙◌, subst}
use Rattle.std.specs.Prelude.{MatchBool, Option, None}
use Rattle.std.proofs.lemmas.List.{take-take}
use Rattle.ans_model.specs.File.Refusals.{has_record}
use Rattle.ans_model.specs.Screen.State.{Size}
use Rattle.ans_mend.specs.LastEnds.{LeavesMost, NeverPasses, line_ends, most_sequences}
use Rattle.ans_pens.specs.declared.times.Times.{Times}
use Rattle.ans_sauce.specs.Contents.{content_in, with_content}
use Rattle.ans_mend.specs.LastEnds.{AreLastEndsOut, HasFewerEnds, times_at}
use Rattle.ans_mend.proofs.ContentFront.{behind_kept, content_bytes, same_content}
use Rattle.ans_mend.proofs.SequencesLeft.{leaves_within}

of_recorded : (z : Size) (file new left : List ℕ) (times : Option Times) → has_record file ≡ true
    → AreLastEndsOut z (content_in file) left times → new ≡ with_content left file → HasFewerEnds z file new times
of_recorded z file new left times has out new_is =
    subst (λ (b : Bool). MatchBool b ((left : List ℕ) × AreLastEndsOut z (content_in file) left times
    × (new ≡ with_content left file)) ((new ≡ file) × (times ≡ None))) (sym has) (left, out, new_is)

-- none would do
pub none_fewer : (z : Size) (file content : List ℕ) → has_record file ≡ true → content ≡ content_in file
    → NeverPasses most_sequences z content → HasFewerEnds z file file None
none_fewer z file content has is none =
    of_recorded z file file (content_in file) None has (inr (rw is at none, refl, refl)) (sym (same_content file))

-- in a memory of which the first bytes are the file
pub some_fewer : (z : Size) (memory twice file content : List ℕ) (used left : ℕ) (times : Option Times)
    → has_record file ≡ true → content ≡ content_in file → used ≤ length memory → file ≡ take used memory
    → LeavesMost most_sequences z content left → times ≡ times_at (line_ends (drop left content)) left
    → twice ≡ take left memory ++ take (used - length content) (drop (length content) memory)
    → HasFewerEnds z file twice times
some_fewer z memory twice file content used left times has is within are leaves times_are moved =
    let most : LeavesMost most_sequences z (content_in file) left =
    subst (λ (v : List ℕ). LeavesMost most_sequences z v left) is leaves in
    let bytes : take left memory ≡ take left (content_in file) =
    sym (take-take left (length (content_in file)) memory
    (leaves_within most_sequences (content_in file) left most.leaves))
    ∙ ap (take left) (content_bytes memory used file within are) in
    of_recorded z file twice (take left memory) times has
    (inl (record {
      count = left;
      leaves = most;
      left_is = bytes;
      times_are = times_are ∙ ap (λ (v : List ℕ). times_at (line_ends (drop left v)) left) is;
    }))
    (behind_kept memory used file within are memory twice left refl (rw is at moved))
