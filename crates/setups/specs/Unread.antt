-- RULES.md, 'Set-up': places past a count are not read. What they hold changes neither the refusal nor a group's
-- name, whatever the set-up.
use Rattle.std.specs.Prelude.{◌≡◌}
use Rattle.setups.specs.Refusals.{setup_refusal}
use Rattle.setups.specs.Naming.{names}
use Rattle.setups.specs.Clearing.{cleared}
use Rattle.input.specs.declared.Setup.{Setup}

-- clearing the places past the counts keeps the refusal
abbrev pub RefusalKept : Type 0
RefusalKept = (c : Setup) → setup_refusal (cleared c) ≡ setup_refusal c

-- clearing the places past the counts keeps the names
abbrev pub NamesKept : Type 0
NamesKept = (c : Setup) → names (cleared c) ≡ names c
