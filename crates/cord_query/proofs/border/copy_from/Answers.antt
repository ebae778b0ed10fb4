-- A piece more was copied.
use Rattle.std.proofs.Common.{◌+◌, ◌-◌, ◌≤◌, ◌++◌, length, take, ap, ◌∙◌, arith}
use Rattle.std.proofs.lemmas.Slice.{take-put_mid}
use Rattle.cord_query.proofs.PieceLaws.{piece-few}
use Rattle.cord_query.proofs.BorderLaws.{moves, still-fits, joins}
use Rattle.cord_query.proofs.border.copy_from.Goals as goal

pub loop-filled-preserved : goal.loop-filled-preserved
loop-filled-preserved c =
    let is = c.loop-filled.invariant in
    let start = c.seek.new.self in
    let chunks = c.loop-filled.chunks in
    let new = c.read-piece.new.self in
    let room = c.loop-filled.room in
    let filled = c.loop-filled.filled in
    let piece = c.read-piece.result.now in
    let read = c.read-piece.ensures in
    let part = c.copy_from_slice.new.self in
    let same = c.copy_from_slice.ensures.after in
    let inside : filled ≤ length room = omega (arith, is.within, c.requires.room, c.loop-filled.auto.room) in
    record {
      within = omega (arith, piece-few (c.args.most - filled) chunks piece read.read.is, is.within);
      moved = moves start chunks new filled piece is.moved read.next read.read.new_is;
      fits = still-fits start chunks new filled piece is.moved read.next read.read.new_is is.fits;
      copied =
          take-put_mid filled _ room part (filled + length piece) (omega (arith, ap length same)) inside
          ∙ ap (λ t. take filled room ++ t) same
          ∙ joins start chunks new filled piece is.moved read.next read.read.new_is room is.copied;
    }
