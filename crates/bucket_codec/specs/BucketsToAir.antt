-- A bucket to be aired, as the definitions know it. The contracts of `encode` and `size_of` use these definitions for a bucket.
use Rattle.air_model.specs.Buckets.{Body, Bucket, Idle, Column, Vector}
use Rattle.bucket_codec.specs.declared.encoding.Bucket.{Bucket as BucketToAir}
use Rattle.bucket_codec.specs.declared.encoding.Body.{Body as BodyToAir}
use Rattle.bucket_codec.specs.declared.encoding.Body.TheVariants as Given

-- What the body of a bucket to be aired carries.
unfoldable pub body_to_air : BodyToAir → Body
body_to_air (Given.Idle count) = Idle count
body_to_air (Given.Column item value entries) = Column item value entries.now
body_to_air (Given.Vector item value entries) = Vector item value entries.now

-- What a bucket to be aired says.
abbrev pub bucket_to_air : BucketToAir → Bucket
bucket_to_air b = record { version = b.version; edition = b.edition; cycle = b.cycle; slot = b.slot; body = body_to_air b.body }
