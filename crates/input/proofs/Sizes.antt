-- How many bytes a set-up takes. Assumes nothing.
use mathlib.Core.Path.{◌≡◌, refl}
use Rattle.input.specs.Layout.{setup_size}

-- `Setup::SIZE`
pub setup_size_lem : setup_size ≡ 232
setup_size_lem = refl
