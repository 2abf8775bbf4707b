-- `write_setup` meets its contract. Assumes nothing.
use Rattle.std.proofs.Common.{rules, ◌≡◌, length, sym}
use Rattle.numbers.specs.Rows.{first_of}
use Rattle.blocks.specs.Sizes.{block_size}
use Rattle.setups.specs.Refusals.{setup_rows, setup_refusal}
use Rattle.writer.specs.Written.{lent_rows}
use Rattle.writer.specs.SetupBlocks.{block_of_setup, setup_written}
use Rattle.writer.proofs.Answers.{cleared_counted, lent_zero, written_zero}
use Rattle.writer.proofs.setup_blocks.write_setup.Goals as goal

pub returns-in_err-judge_setup : goal.returns-in_err-judge_setup
unfolding setup_written setup_refusal
returns-in_err-judge_setup c = search rules

pub setup_payload-requires : goal.setup_payload-requires
unfolding setup_refusal
setup_payload-requires c =
    let s = c.args in
    let free : first_of (setup_rows s.setup) ≡ 0 = search rules in
    rw c.clear-cleared.ensures (cleared_counted s.setup free)

pub returns : goal.returns
unfolding setup_written block_of_setup setup_refusal
returns c =
    let s = c.args in
    let rows = setup_rows s.setup in
    let free : first_of rows ≡ 0 = search rules in
    let long : length s.out.now ≡ block_size = search rules in
    rw (c.put_block.ensures, c.head_of-head.ensures, c.setup_payload.ensures, c.clear-cleared.ensures)
    (sym (written_zero (lent_rows s.out.now rows) _ s.out.now (lent_zero s.out.now rows long free)))
