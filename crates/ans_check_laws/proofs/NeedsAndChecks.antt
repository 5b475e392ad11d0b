-- What is needed is what checks find.
use Rattle.std.proofs.Common.{◌≡◌, ◌↔◌, ℕ, Bool, true, false, List, refl, subst}
use Rattle.std.specs.Prelude.{IsTrue}
use Rattle.ans_model.specs.File.Record.{stated_size}
use Rattle.ans_model.specs.declared.start.Start.{Start}
use Rattle.ans_model.specs.File.Layout.{FileParts, content}
use Rattle.ans_model.specs.File.Refusals.{Accepts}
use Rattle.ans_model.specs.Screen.StartClass.{all_known, Covers}
use Rattle.ans_model.specs.Verdict.Good.{IsGood}
use Rattle.ans_model.proofs.AcceptedFiles.{one_layout}
use Rattle.ans_model.proofs.ClassLemmas.{covers_all_known, covers_good}
use Rattle.ans_check.specs.CommandText.{ReportsCheck, ReportsNeeds}
use Rattle.ans_verdict.specs.FileNeeds.{NeedsClass}
use Rattle.ans_verdict.specs.FileVerdict.{IsGoodFile}

-- the content of a good file is good
good_content : (file : List ℕ) (start : Start) (apart : FileParts) → Accepts file apart → IsGoodFile file start
    → IsGood (stated_size apart.record_bytes) start (content apart.body)
good_content file start apart accepts good =
    let same : good.0 ≡ apart = one_layout file good.0 apart good.2.accepts.laid accepts.laid in
    subst (λ (a : FileParts). IsGood (stated_size a.record_bytes) start (content a.body)) same (good.1, good.2.good)

-- a file is good for the classes that know each part which it needs
pub good_where_covered : (file : List ℕ) (apart : FileParts) (class start : Start) → NeedsClass file apart class
    → IsGoodFile file start ↔ Covers class start
good_where_covered file apart class start needs = (
  λ good. (needs.least start).0 (good_content file start apart needs.accepts good),
  λ covers.
      let good = (needs.least start).1 covers in
      (apart, good.0, record { accepts = needs.accepts; good = good.1 }),
)

-- a check passes exactly where the file is good
pub passes_where_good : (file text : List ℕ) (start : Start) (cells passed : Bool)
    → ReportsCheck file start cells passed text
    → IsTrue passed ↔ IsGoodFile file start
passes_where_good file text start cells true report =
    (λ _. (report.apart, report.picture, report.passes), λ _. refl)
passes_where_good file text start cells false report = (λ k. absurd (cc k), λ good. absurd (report.0 good))

pub passes_where_covered : (file text : List ℕ) (apart : FileParts) (class start : Start) (cells passed : Bool)
    → NeedsClass file apart class → ReportsCheck file start cells passed text → IsTrue passed ↔ Covers class start
passes_where_covered file text apart class start cells passed needs report =
    let good = good_where_covered file apart class start needs in
    let passes = passes_where_good file text start cells passed report in
    (λ k. good.0 (passes.0 k), λ covers. passes.1 (good.1 covers))

-- what is good for a class is good for the cleared start
good_for_cleared : (file : List ℕ) (start : Start) → IsGoodFile file start → IsGoodFile file all_known
good_for_cleared file start good = (
  good.0,
  good.1,
  record {
    accepts = good.2.accepts;
    good = covers_good (stated_size good.0.record_bytes) start all_known (content good.0.body) good.1
        (covers_all_known start)
        good.2.good;
  },
)

-- a file that is refused from the cleared start is good for no class, and no check passes
pub never_good : (file text : List ℕ) (start : Start) → ReportsNeeds file false text → ¬ IsGoodFile file start
never_good file text start needs good = needs.0 (good_for_cleared file start good)

pub never_passes : (file text other : List ℕ) (start : Start) (cells passed : Bool) → ReportsNeeds file false other
    → ReportsCheck file start cells passed text → passed ≡ false
never_passes file text other start cells true needs report =
    absurd (never_good file other start needs (report.apart, report.picture, report.passes))
never_passes file text other start cells false needs report = refl
