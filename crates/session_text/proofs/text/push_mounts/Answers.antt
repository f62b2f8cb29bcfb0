use Rattle.std.proofs.Common.{◌<◌, length, arith, ap}
use Rattle.std.proofs.lemmas.List.Sums.{sum_by_more}
use Rattle.session_model.specs.Text.{mount_line}
use Rattle.session_text.specs.Room.{mount_room}
use Rattle.session_text.proofs.TextLemmas.{zip_more, zip_all}
use Rattle.session_text.proofs.text.push_mounts.Goals as goal

pub loop-i-preserved : goal.loop-i-preserved
loop-i-preserved c =
    let within : c.loop-i.i < length c.args.mounts.now = omega (arith, c.loop-i-test.true) in
    let more = sum_by_more mount_room c.args.mounts.now c.loop-i.i c.index-mounts-i.result within in
    let one = ap mount_room c.index-mounts-i.is in
    record {
      items = zip_more mount_line c.args.mounts.now c.args.totals.now c.loop-i.i c.index-mounts-i.result
          (record { published = 0; claims = 0 })
          c.index-mounts-i.result c.index-mounts-i.is within c.requires
          c.args.out.now.items c.loop-i.out.items c.push_mount.new.out.items c.loop-i.invariant.items
          c.in_ok-push_mount.ensures.ok;
      short = omega (arith, more, one, c.loop-i.invariant.short, c.in_ok-push_mount.ensures.fits.short);
      capacity = omega (arith, c.loop-i.invariant.capacity, c.in_ok-push_mount.ensures.fits.capacity);
    }

pub returns-clause-ok : goal.returns-clause-ok
returns-clause-ok c =
    zip_all mount_line c.args.mounts.now c.args.totals.now c.loop-i.i (omega
    (arith, c.loop-i-test.false)) c.args.out.now.items
    c.loop-i.out.items c.loop-i.invariant.items
