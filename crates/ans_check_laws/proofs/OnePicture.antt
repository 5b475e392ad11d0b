-- An accepted file has one layout, and one that passes one picture.
use Rattle.std.proofs.Common.{◌≡◌, List, ℕ, subst}
use Rattle.ans_model.specs.File.Layout.{FileParts, content}
use Rattle.ans_model.specs.File.Record.{stated_size}
use Rattle.ans_model.specs.File.Refusals.{Accepts}
use Rattle.ans_model.specs.Verdict.Good.{GoodWith, Picture}
use Rattle.ans_model.specs.declared.start.Start.{Start}
use Rattle.ans_model.proofs.AcceptedFiles.{one_layout}
use Rattle.ans_play_laws.proofs.OneEnd.{one_picture}
use Rattle.ans_verdict.specs.FileVerdict.{Passes}

pub same_apart : (file : List ℕ) (a b : FileParts) → Accepts file a → Accepts file b → a ≡ b
same_apart file a b h g = one_layout file a b h.laid g.laid

pub same_picture : (file : List ℕ) (start : Start) (a b : FileParts) (p q : Picture) → Passes file start a p
    → Passes file start b q → (a ≡ b) × (p ≡ q)
same_picture file start a b p q h g =
    let apart : a ≡ b = same_apart file a b h.accepts g.accepts in
    let moved : GoodWith (stated_size b.record_bytes) start (content b.body) p =
    subst (λ (v : FileParts). GoodWith (stated_size v.record_bytes) start (content v.body) p) apart h.good in
    (apart, one_picture (stated_size b.record_bytes) start start (content b.body) p q moved g.good)
