use Rattle.std.proofs.Common.{◌<◌, ◌≤◌, List, length, slice_index_or, arith}
use Rattle.std.proofs.lemmas.List.{get_or_default}
use Rattle.iso_model.specs.declared.access.Access.TheVariants.{Read}
use Rattle.iso_plan.specs.declared.lock.Lock.{Lock}
use Rattle.iso_locks.proofs.MoveLemmas.{moving-all, moving-more, within-at}
use Rattle.iso_locks.proofs.moves.move_written.Goals as goal

abbrev no_lock : Lock
no_lock = record { key = 0; access = Read }

pub move_locked-requires-clause-there : goal.move_locked-requires-clause-there
move_locked-requires-clause-there c =
    let ls : List Lock = c.args.locks.now in
    let l : Lock = slice_index_or ls c.locks.n no_lock in
    let inside : c.locks.n < length ls = omega arith in
    let less : l.key < length c.args.here.now = within-at (length c.args.here.now) ls c.locks.n l c.requires.within inside (get_or_default ls c.locks.n no_lock l inside) in
    let fits = c.locks.invariant.there_fits in
    let same = c.requires.fits in
    omega arith

pub move_locked-requires-clause-here : goal.move_locked-requires-clause-here
move_locked-requires-clause-here c =
    let ls : List Lock = c.args.locks.now in
    let l : Lock = slice_index_or ls c.locks.n no_lock in
    let inside : c.locks.n < length ls = omega arith in
    let less : l.key < length c.args.here.now = within-at (length c.args.here.now) ls c.locks.n l c.requires.within inside (get_or_default ls c.locks.n no_lock l inside) in
    let fits = c.locks.invariant.here_fits in
    omega arith

pub locks-preserved : goal.locks-preserved
locks-preserved c =
    let ls : List Lock = c.args.locks.now in
    let l : Lock = slice_index_or ls c.locks.n no_lock in
    let inside : c.locks.n < length ls = omega arith in
    let less : l.key < length c.args.here.now = within-at (length c.args.here.now) ls c.locks.n l c.requires.within inside (get_or_default ls c.locks.n no_lock l inside) in
    let fits = c.locks.invariant.there_fits in
    let fits_here = c.locks.invariant.here_fits in
    let same = c.requires.fits in
    let in_there : l.key < length c.locks.there = omega arith in
    let in_here : l.key < length c.locks.here = omega arith in
    moving-more c.args.there.now c.args.here.now ls c.locks.n c.locks.there c.locks.here c.move_locked.new.there c.move_locked.new.here l inside (get_or_default ls c.locks.n no_lock l inside)
    in_there in_here
    c.move_locked.ensures.there c.move_locked.ensures.here c.locks.invariant

pub returns-clause-here : goal.returns-clause-here
returns-clause-here c =
    let all : length c.args.locks.now ≤ c.locks.n = omega arith in
    (moving-all c.args.there.now c.args.here.now c.args.locks.now c.locks.n c.locks.there c.locks.here all c.locks.invariant).1

pub returns-clause-there : goal.returns-clause-there
returns-clause-there c =
    let all : length c.args.locks.now ≤ c.locks.n = omega arith in
    (moving-all c.args.there.now c.args.here.now c.args.locks.now c.locks.n c.locks.there c.locks.here all c.locks.invariant).0
