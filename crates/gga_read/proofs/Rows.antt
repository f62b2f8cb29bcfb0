-- Known sentences, as the definitions compute them.
use Rattle.std.proofs.Common.{◌≡◌, Some, None, refl}
use Rattle.std.specs.Prelude.{codes, pos, neg_ℤ}
use Rattle.gga_read.specs.Report.{fix_of}

first : fix_of (codes "$GPGGA,123519,4807.038,N,01131.000,E,1,08,0.9,545.4,M,46.9,M,,*47")
    ≡ Some (record { lat = pos 481173000; lon = pos 115166666 })
unfolding fix_of
first = refl

second : fix_of (codes "$GPGGA,123519,4812.000,N,01131.000,E,1,08,0.9,545.4,M,46.9,M,,*48")
    ≡ Some (record { lat = pos 482000000; lon = pos 115166666 })
unfolding fix_of
second = refl

another_checksum : fix_of (codes "$GPGGA,123519,4807.038,N,01131.000,E,1,08,0.9,545.4,M,46.9,M,,*48")
    ≡ None
unfolding fix_of
another_checksum = refl

south_and_west : fix_of (codes "$GPGGA,123519,4807.038,S,01131.000,W,1,08,0.9,545.4,M,46.9,M,,*48")
    ≡ Some (record { lat = neg_ℤ (pos 481173000); lon = neg_ℤ (pos 115166666) })
unfolding fix_of
south_and_west = refl

sixty_minutes : fix_of (codes "$GPGGA,123519,4860.000,N,01131.000,E,1,08,0.9,545.4,M,46.9,M,,*4D")
    ≡ None
unfolding fix_of
sixty_minutes = refl
