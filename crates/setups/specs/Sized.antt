-- The lengths of a set-up's tables, which every `Setup` of the code has by its type.
use Rattle.std.specs.Prelude.{◌≡◌, length}
use Rattle.numbers.specs.Limits.{most_tasks, most_resources, most_pairs}
use Rattle.input.specs.declared.Setup.{Setup}

pub record Sized (c : Setup) : Type 0 where
  pub periods : length c.periods ≡ most_tasks
  pub kinds : length c.kinds ≡ most_resources
  pub outer : length c.outer ≡ most_pairs
  pub inner : length c.inner ≡ most_pairs
