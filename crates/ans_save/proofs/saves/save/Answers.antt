use Rattle.std.proofs.Common.{rules, refl}
use Rattle.std.specs.Prelude.{string_bytes}
use Rattle.std.specs.IoError.{error_kind}
use Rattle.std.specs.Option.{option_map}
use Rattle.ans_save.proofs.RefusedLemmas.{if_err}
use Rattle.ans_save.proofs.SparingLemmas.{error_spares, folder_spares, unsaved_spares}
use Rattle.ans_save.proofs.UnsavedLemmas.{gave_up, no_folder, refused}
use Rattle.ans_save.proofs.saves.save.Goals as goal

pub returns-in-Err-clause-unsaved : goal.returns-in-Err-clause-unsaved
returns-in-Err-clause-unsaved g c =
    no_folder g.D.Disk.did g.D.Disk.leads g.D.Disk.sees g.D.Disk.fails g.D.Disk.opens
    c.args.disk.now c.args.saves.now c.args.saving (option_map (λ n. n.now) c.args.input) c.args.bytes.now
    (string_bytes c.in_ok-named.named) c.in_ok-named.ensures.named c.make_folder.new.disk c.unwritten.result
    (error_kind c.in-Err.error) c.in-Err.ensures (search rules)

pub returns-in_err-target-clause-unsaved : goal.returns-in_err-target-clause-unsaved
returns-in_err-target-clause-unsaved g c =
    if_err c.from_residual-in_err-target.result c.in_err-target.field-0.0 _ c.from_residual-in_err-target.ensures.1
    (refused g.D.Disk.did g.D.Disk.leads g.D.Disk.sees g.D.Disk.fails g.D.Disk.opens
    c.args.disk.now c.args.saves.now c.args.saving (option_map (λ n. n.now) c.args.input) c.args.bytes.now
    (string_bytes c.in_ok-named.named) c.in_ok-named.ensures.named c.make_folder.new.disk c.in_err-target.field-0.0
    c.in_default.ensures (rw (← c.as_str.ensures.value) c.in_err-target.ensures.aimless))

pub returns-in_err-file-clause-unsaved : goal.returns-in_err-file-clause-unsaved
returns-in_err-file-clause-unsaved g c =
    if_err c.from_residual-in_err-file.result c.in_err-file.field-0.0 _ c.from_residual-in_err-file.ensures.1
    (gave_up g.D.Disk.did g.D.Disk.leads g.D.Disk.sees g.D.Disk.fails g.D.Disk.opens
    c.args.disk.now c.args.saves.now c.args.saving (option_map (λ n. n.now) c.args.input) c.args.bytes.now
    (string_bytes c.in_ok-named.named) c.in_ok-named.ensures.named c.make_folder.new.disk c.replace.new.disk
    c.in_err-file.field-0.0 c.as_str-2.result.now _ c.in_default.ensures
    (rw (c.as_str-2.ensures.value, ← c.as_str.ensures.value) c.in_ok-target.ensures.aimed) refl
    c.is_in_place.ensures c.in_err-file.ensures.kept)

pub returns-in-Err-clause-spared : goal.returns-in-Err-clause-spared
returns-in-Err-clause-spared g c =
    unsaved_spares g.D.Disk.did g.D.Disk.leads g.D.Disk.sees g.D.Disk.fails g.D.Disk.opens c.args.disk.now
    c.make_folder.new.disk c.args.saves.now c.args.saving (option_map (λ n. n.now) c.args.input) c.args.bytes.now
    c.unwritten.result (returns-in-Err-clause-unsaved g c)

pub returns-in_err-target-clause-spared : goal.returns-in_err-target-clause-spared
returns-in_err-target-clause-spared g c =
    error_spares g.D.Disk.did g.D.Disk.leads g.D.Disk.sees g.D.Disk.fails g.D.Disk.opens
    c.from_residual-in_err-target.result c.args.disk.now c.make_folder.new.disk c.args.saves.now c.args.saving
    (option_map (λ n. n.now) c.args.input) c.args.bytes.now (returns-in_err-target-clause-unsaved g c)

pub returns-in_err-reserve-clause-spared : goal.returns-in_err-reserve-clause-spared
returns-in_err-reserve-clause-spared g c =
    folder_spares g.D.Disk.did g.D.Disk.leads g.D.Disk.sees g.D.Disk.fails g.D.Disk.opens
    c.from_residual-in_err-reserve.result c.args.disk.now c.make_folder.new.disk c.args.saving c.in_default.ensures

pub returns-in_err-file-clause-spared : goal.returns-in_err-file-clause-spared
returns-in_err-file-clause-spared g c =
    error_spares g.D.Disk.did g.D.Disk.leads g.D.Disk.sees g.D.Disk.fails g.D.Disk.opens
    c.from_residual-in_err-file.result c.args.disk.now c.replace.new.disk c.args.saves.now c.args.saving
    (option_map (λ n. n.now) c.args.input) c.args.bytes.now (returns-in_err-file-clause-unsaved g c)
