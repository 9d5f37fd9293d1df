-- What the disk means, by what its memory holds.
use Rattle.std.proofs.Common.{length, refl, rules}
use Rattle.disk.specs.Memory.{sectors}
use Rattle.disk.proofs.Meanings.{all_kept}
use Rattle.disk.proofs.Clears.{blank_disk, by_test}
use Rattle.disk.proofs.blank.blank_disk.Goals as goal

pub returns : goal.returns
returns g c =
    let made = c.clear_and_make.ensures in
    record {
      test = made.test;
      cases =
          by_test c.clear_and_make.result _ made.test made.cases
          (λ d e h. (
            blank_disk (length c.args.memory.now) _ _ _ _ e h.0 refl
                (all_kept g.H.HoldBack.holding g.met.H.HoldBack.lawful d.held (sectors d.sectors.memory.now) h.2)
                (search (rules, h.1)) refl,
            h.2,
          ))
          (λ e h. h);
    }
