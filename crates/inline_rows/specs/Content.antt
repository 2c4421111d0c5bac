-- A value as it lies in the bytes, and the value that it is.
use Rattle.inline_rows.specs.declared.content.Content.{Content}
use Rattle.inline_rows.specs.declared.content.Content.TheVariants as content
use Rattle.lake_types.specs.declared.value.Value.{Value}
use Rattle.lake_types.specs.declared.value.Value.TheVariants as value

abbrev pub held : Content → Value
held content.Null = value.Null
held (content.Bool truth) = value.Bool truth
held (content.Int number) = value.Int number
held (content.Text text) = value.Text text.now
held (content.Bytes bytes) = value.Bytes bytes.now
held (content.Date day) = value.Date day
