-- The corrected sums that a determination rests on, as the code holds them. No public clause names them.
use Rattle.std.specs.Prelude.{ℕ, ◌*◌, ◌^◌, ◌<◌, nat_le, Bool, List}
use Rattle.cds_calib.specs.declared.point.Point.{Point}
use Rattle.cds_calib.specs.declared.determination.Spread.{Spread}
use Rattle.cds_calib.specs.declared.determination.TheConstants.{MOST_DETERMINATION}
use Rattle.cds_calib.specs.Line.{corrected_xx, corrected_yy, corrected_xy}

-- the three corrected sums of the points
abbrev pub spread_of : List Point → Spread
spread_of points = record { xx = corrected_xx points; yy = corrected_yy points; xy = corrected_xy points }

-- corrected sums of points whose line rises
pub record IsSpread (s : Spread) : Type 0 where
  pub xx_some : 0 < s.xx
  pub xy_some : 0 < s.xy
  pub xx_fits : s.xx < 2 ^ 72
  pub yy_fits : s.yy < 2 ^ 116
  pub xy_fits : s.xy < 2 ^ 94

-- r^2 is at least q / 10000
abbrev pub reaches : Spread → ℕ → Bool
reaches s q = nat_le (q * (s.xx * s.yy)) (MOST_DETERMINATION * (s.xy * s.xy))
