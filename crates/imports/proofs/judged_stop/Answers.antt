-- The tests as they are reckoned are those of the stops.
use Rattle.std.proofs.Common.{arith}
use Rattle.theory.specs.First.{first, choose}
use Rattle.hgv.specs.laws.Layout.{is_width}
use Rattle.imports.specs.Call.{handed_in}
use Rattle.imports.specs.Import.{judged_stops}
use Rattle.imports.proofs.Laws.{rejected_most, taken_few, thin_is, slots_are, buffer_is}
use Rattle.imports.proofs.judged_stop.Goals as goal

pub is_thin-thin-requires : goal.is_thin-thin-requires
is_thin-thin-requires c =
    let f = handed_in c.args.call.now c.args.hgc.now in
    taken_few f _ _ _ c.requires.clear c.requires.verdict c.requires.bad _ c.requires.good

pub returns-in_err-require : goal.returns-in_err-require
unfolding judged_stops first choose
returns-in_err-require c =
    let f = handed_in c.args.call.now c.args.hgc.now in
    let thin = thin_is f _ _ _ c.requires.clear c.requires.verdict c.requires.bad _ c.sender-sender.ensures _ c.requires.good _ c.is_thin-thin.ensures in
    grind arith

pub returns-in_err-require-2 : goal.returns-in_err-require-2
unfolding judged_stops first choose
returns-in_err-require-2 c =
    let f = handed_in c.args.call.now c.args.hgc.now in
    let thin = thin_is f _ _ _ c.requires.clear c.requires.verdict c.requires.bad _ c.sender-sender.ensures _ c.requires.good _ c.is_thin-thin.ensures in
    let slots = slots_are f _ _ _ c.requires.clear c.requires.verdict c.requires.bad _ c.sender-sender.ensures _ c.requires.sought _ c.used_after-used.ensures in
    grind arith

pub length_for-length-requires : goal.length_for-length-requires
length_for-length-requires c =
    let f = handed_in c.args.call.now c.args.hgc.now in
    (rw c.width.ensures (is_width _).1, rejected_most f _ _ _ c.requires.clear c.requires.verdict c.requires.bad)

pub returns : goal.returns
unfolding judged_stops first choose
returns c =
    let f = handed_in c.args.call.now c.args.hgc.now in
    let thin = thin_is f _ _ _ c.requires.clear c.requires.verdict c.requires.bad _ c.sender-sender.ensures _ c.requires.good _ c.is_thin-thin.ensures in
    let slots = slots_are f _ _ _ c.requires.clear c.requires.verdict c.requires.bad _ c.sender-sender.ensures _ c.requires.sought _ c.used_after-used.ensures in
    let buffer = buffer_is f _ _ _ c.requires.clear c.requires.verdict c.requires.bad _ c.width.ensures _ c.length_for-length.ensures in
    grind arith
