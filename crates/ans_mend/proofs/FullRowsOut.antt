-- Line ends that are taken out of a file.
use Rattle.std.proofs.Common.{◌≡◌, inl, inr, ℕ, Bool, true, false, List}
use Rattle.std.proofs.Common.{◌++◌, ◌-◌, ◌≤◌, length, take, drop, refl, sym, ap}
use Rattle.std.proofs.Common.{◌∙◌, subst}
use Rattle.std.specs.Prelude.{MatchBool, Option, None}
use Rattle.ans_model.specs.File.Refusals.{has_record}
use Rattle.ans_model.specs.Sequence.TokenKind.{TokenKind}
use Rattle.ans_model.specs.Sequence.Reads.{ReadsAs}
use Rattle.ans_model.specs.Screen.State.{Size}
use Rattle.ans_hints.specs.FullRowEnds.{AreEndsOver, full_row_ends, without_ends}
use Rattle.ans_hints.specs.declared.full_row_ends.FullRowEnd.{FullRowEnd}
use Rattle.ans_hints.specs.declared.row_play.RowPlay.{RowPlay}
use Rattle.ans_pens.specs.declared.times.Times.{Times}
use Rattle.ans_sauce.specs.Contents.{content_in, with_content}
use Rattle.ans_mend.specs.FullRows.{AreRowEndsOut, HasFullRows, MayGo, times_with}
use Rattle.ans_mend.proofs.ContentFront.{behind_kept, content_bytes, same_content}

of_recorded : (mixed : Bool) (z : Size) (file new left : List ℕ) (times : Option Times) → has_record file ≡ true
    → AreRowEndsOut mixed z (content_in file) left times → new ≡ with_content left file → HasFullRows mixed z file
    new times
of_recorded mixed z file new left times has out new_is =
    subst (λ (b : Bool). MatchBool b ((left : List ℕ) × AreRowEndsOut mixed z (content_in file) left times
    × (new ≡ with_content left file)) ((new ≡ file) × (times ≡ None))) (sym has) (left, out, new_is)

may_reads : (mixed : Bool) (z : Size) (content : List ℕ) (tokens : List TokenKind) (texts : List (List ℕ))
    → MayGo mixed z content tokens texts → ReadsAs content tokens texts
may_reads false z content tokens texts h = h.reads
may_reads true z content tokens texts h = h.reads

-- none are
pub none_out : (mixed : Bool) (z : Size) (file content : List ℕ) → has_record file ≡ true → content ≡ content_in file
    → ((tokens : List TokenKind) (texts : List (List ℕ)) → ¬ MayGo mixed z content tokens texts)
    → HasFullRows mixed z file file None
none_out mixed z file content has is none =
    of_recorded mixed z file file (content_in file) None has (inr (rw is at none, refl, refl)) (sym (same_content file))

-- those of a content in a memory of which the first bytes are the file
pub all_out : (mixed : Bool) (z : Size) (memory once twice file content : List ℕ) (used kept : ℕ) (times : Option Times)
    (rows : RowPlay) → has_record file ≡ true → content ≡ content_in file → used ≤ length memory
    → file ≡ take used memory
    → ((tokens : List TokenKind) × (texts : List (List ℕ)) × MayGo mixed z content tokens texts)
    → ((bytes : List ℕ) (tokens : List TokenKind) (texts : List (List ℕ)) → ReadsAs bytes tokens texts
    → AreEndsOver rows bytes (full_row_ends z tokens texts))
    → ((ends : List FullRowEnd) → AreEndsOver rows (take (length content) memory) ends
    → take kept once ≡ without_ends 0 ends (take (length content) memory))
    → ((ends : List FullRowEnd) → AreEndsOver rows (take (length content) memory) ends → times ≡ times_with None ends)
    → drop (length content) once ≡ drop (length content) memory
    → twice ≡ take kept once ++ take (used - length content) (drop (length content) once)
    → HasFullRows mixed z file twice times
all_out mixed z memory once twice file content used kept times rows has is within are found plays left_is times_are
    behind
    moved =
    let bytes : take (length content) memory ≡ content_in file =
    ap (λ (v : List ℕ). take (length v) memory) is ∙ content_bytes memory used file within are in
    let may : MayGo mixed z (content_in file) found.0 found.1 =
    subst (λ (v : List ℕ). MayGo mixed z v found.0 found.1) is found.2 in
    let over : AreEndsOver rows (take (length content) memory) (full_row_ends z found.0 found.1) =
    plays (take (length content) memory) found.0 found.1
    (subst (λ (v : List ℕ). ReadsAs v found.0 found.1) (sym bytes) (may_reads mixed z (content_in file) found.0
    found.1 may)) in
    of_recorded mixed z file twice (take kept once) times has
    (inl (record {
      tokens = found.0;
      texts = found.1;
      may_go = may;
      left_is = left_is _ over ∙ ap (without_ends 0 (full_row_ends z found.0 found.1)) bytes;
      times_are = times_are _ over;
    }))
    (behind_kept memory used file within are once twice kept (rw is at behind) (rw is at moved))
